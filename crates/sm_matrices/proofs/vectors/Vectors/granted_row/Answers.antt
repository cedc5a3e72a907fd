use Rattle.std.proofs.Common.{◌≡◌, sym, ◌∙◌, ℕ, get_or, length, refl}
use Rattle.std.proofs.lemmas.List.{get_or-replicate}
use Rattle.sm_matrices.proofs.Deciding.{permissive_granted}
use Rattle.sm_matrices.proofs.vectors.Vectors.granted_row.Goals as goal

pub returns-then-has-clause-allowed : goal.returns-then-has-clause-allowed
returns-then-has-clause-allowed c policy names of hs t b ht lt =
    let permissive = sym c.has.ensures ∙ c.if-has.true in
    let count : c.self.inside.count ≡ length names = rw (← c.self.view_is) at of.count in
    let items = c.in_ok-row.ensures.items_if_clones_equal (λ y e. e) in
    let byte : get_or c.in_ok-row.row.items t 0 ≡ 127 =
    rw (items, c.get-then-has.ensures.number, get_or-replicate {A = ℕ} c.self.inside.count t 127 0 (rw count ht)) refl in
    rw byte (permissive_granted policy names c.args.self.now b c.args.source t of hs ht lt
    (rw (← c.self.view_is, ← c.from-s.ensures) permissive))
