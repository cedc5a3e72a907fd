use Rattle.std.proofs.Common.{◌≡◌, ◌≤◌, ◌^◌, take}
use Rattle.sm_questions.specs.Tallies.{end_of_kept}
use Rattle.sm_questions.proofs.tallying.end_of_rules.Given as goal

abbrev pub invariant-loop-rule : goal.invariant-loop-rule
invariant-loop-rule l = record {
  end : l.end ≡ end_of_kept (take l.rule-index l.rules);
  small : l.end ≤ 2 ^ 32;
}
