use Rattle.std.proofs.Common.{◌≡◌, ◌≤◌, take}
use Rattle.sm_policy.specs.Counting.{rule_count}
use Rattle.sm_policy.proofs.counts.rule_count.Given as goal

abbrev pub invariant-loop-statement : goal.invariant-loop-statement
invariant-loop-statement l = record {
  so_far : l.count ≡ rule_count (take l.statement-index l.statements);
  small : l.count ≤ l.statement-index;
}
