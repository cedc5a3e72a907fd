use Rattle.std.proofs.Common.{◌≡◌, ℕ, Bool, true, ◌&&◌, List, refl, sym, subst}
use Rattle.std.specs.Bool.{IsTrue}
use Rattle.std.proofs.Math.Bool.{or-true, and-true}
use Rattle.std.proofs.lemmas.Bool.{eq-eqb}
use Rattle.sm_bits.specs.Bits.{has}
use Rattle.sm_rules.specs.declared.kept.Kept.{Kept}
use Rattle.sm_rules.specs.Keeping.{joins}
use Rattle.sm_matrices.proofs.matrix.source_meets.Goals as goal

own_joined : (row : List ℕ) (rule : Kept) (s : ℕ) (b : Bool) → b ≡ has row s → true ≡ has rule.sources s
    → rule.to_self ≡ true → (has row s && joins s s rule) ≡ b
own_joined row rule s b is source own =
    rw (← source, own, eq-eqb s s refl, or-true (has rule.targets s), ← is) (and-true b)

pub returns-then-rule-clause-some : goal.returns-then-rule-clause-some
returns-then-rule-clause-some c some = (
  c.args.s,
  subst IsTrue (sym (own_joined c.args.row.now c.args.rule.now c.args.s c.has-then-rule.result
      c.has-then-rule.ensures c.if-not-has.ensures c.if-rule.true)) some,
)
