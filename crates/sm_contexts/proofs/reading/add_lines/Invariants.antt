use Rattle.std.proofs.Common.{◌≡◌, ◌+◌, ◌≤◌, length}
use Rattle.sm_contexts.specs.Reading.{entries_from, no_entries}
use Rattle.sm_contexts.proofs.reading.add_lines.Given as goal

abbrev pub invariant-lines : goal.invariant-lines
invariant-lines l = record {
  same : entries_from l.number l.entries l.lines ≡ entries_from 1 no_entries l.fn.lines;
  few : l.number + length l.lines ≤ 4194305;
  short : length l.entries + 1 ≤ l.number;
}

abbrev pub decreases-lines : goal.decreases-lines
decreases-lines l = length l.lines
