use Rattle.std.proofs.Common.{◌≡◌, sym, ◌∙◌}
use Rattle.sm_ruletext.proofs.Keyed.{kept}
use Rattle.sm_ruletext.proofs.words.Words.keep.Goals as goal

pub invariant_of-self-in_ok-insert : goal.invariant_of-self-in_ok-insert
invariant_of-self-in_ok-insert c =
    let is : c.in_ok-clone.field-0 ≡ c.in_ok-key.key.items =
    c.in_ok-clone.ensures.cases ∙ (c.requires ∙ sym c.in_ok-key.ensures.items) in
    rw c.in_ok-insert.ensures.entries
    (kept c.in_ok-key.key c.in_ok-clone.field-0 c.self.inside.names.entries is c.self.invariant)

pub invariant_of-self-in_ok-insert-2 : goal.invariant_of-self-in_ok-insert-2
invariant_of-self-in_ok-insert-2 c =
    let is : c.in_ok-clone.field-0 ≡ c.in_ok-key.key.items =
    c.in_ok-clone.ensures.cases ∙ (c.requires ∙ sym c.in_ok-key.ensures.items) in
    rw c.in_ok-insert.ensures.entries
    (kept c.in_ok-key.key c.in_ok-clone.field-0 c.self.inside.names.entries is c.self.invariant)
