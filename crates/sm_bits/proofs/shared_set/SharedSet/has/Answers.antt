use Rattle.std.proofs.Common.{inl, inr, ◌≡◌, ◌/◌, sym, arith}
use Rattle.std.proofs.lemmas.Bool.{ne_eqb, cases_lt}
use Rattle.sm_bits.proofs.Shared.{one_is}
use Rattle.sm_bits.proofs.shared_set.SharedSet.has.Goals as goal

pub returns-in-One : goal.returns-in-One
returns-in-One c =
    let one = one_is _ _ _ _ _ c.self.view_is c.in-One.is c.from.ensures in
    elim (cases_lt (c.from.result / 64) c.self.inside.words) [
      | inl h ↦ sym (one.inside c.args.i h)
      | inr h ↦ (let off : c.args.i ≡ c.from.result → ⊥ = omega (arith, one.room, c.requires, h) in
          rw (one.outside c.args.i h) (ne_eqb c.args.i c.from.result off))
    ]
