use Rattle.std.proofs.Common.{◌≡◌, ◌+◌, ◌≤◌, length, count_by}
use Rattle.sm_values.specs.declared.limits.TheConstants.{MOST_TEXT_BYTES}
use Rattle.sm_contexts.specs.Reading.{is_entry}
use Rattle.sm_contexts.proofs.reading.entry_count.Given as goal

abbrev pub invariant-lines : goal.invariant-lines
invariant-lines l = record {
  same : l.count + count_by is_entry l.lines ≡ count_by is_entry l.fn.lines;
  few : l.count + length l.lines ≤ MOST_TEXT_BYTES;
}

abbrev pub decreases-lines : goal.decreases-lines
decreases-lines l = length l.lines
