use Rattle.std.proofs.Common.{◌≡◌, ◌+◌, ◌≤◌, length, zero, true}
use Rattle.sm_ruletext.specs.Grammar.{group_at}
use Rattle.sm_ruletext.proofs.grammar.group.Given as goal

abbrev pub invariant-items : goal.invariant-items
invariant-items l = record {
  same : group_at l.line l.may_self l.depth l.fresh l.items l.tokens
      ≡ group_at l.line l.may_self zero true l.fn.items l.fn.tokens;
  few : l.depth + length l.tokens ≤ length l.fn.tokens;
}

abbrev pub decreases-items : goal.decreases-items
decreases-items l = length l.tokens
