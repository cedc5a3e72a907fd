use Rattle.std.proofs.Common.{take}
use Rattle.std.specs.List.{flat_map}
use Rattle.sm_types.specs.Denoting.{types}
use Rattle.sm_questions.specs.RuleChanges.{lost_of_source}
use Rattle.sm_questions.specs.Tallies.{Adds, IsFull}
use Rattle.sm_questions.proofs.tallying.count_sources.Given as goal

abbrev pub invariant-loop-source : goal.invariant-loop-source
invariant-loop-source l = record {
  table : IsFull l.one l.table;
  counted : Adds l.one l.initial.counts l.counts
      (flat_map (lost_of_source l.one l.other) (take l.source (types l.one.statements)));
}
