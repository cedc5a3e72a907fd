use Rattle.std.proofs.Common.{◌≡◌, ◌≤◌, ◌+◌, ◌*◌, ◌&&◌, length, count_by, []}
use Rattle.std.specs.List.{filter_map, list_all}
use Rattle.sm_suggestions.specs.Records.{is_long, record_in, records_of, skipped}
use Rattle.sm_suggestions.specs.Rulings.{AreRulings}
use Rattle.sm_suggestions.specs.Suggesting.{record_allowed, suggestions}
use Rattle.sm_suggestions.specs.Tallying.{counted_all, total}
use Rattle.sm_suggestions.specs.declared.limits.TheConstants.{MOST_LOG_BYTES}
use Rattle.sm_suggestions.proofs.suggesting.read_log.Given as goal

abbrev pub invariant-lines : goal.invariant-lines
invariant-lines l = record {
  rulings : AreRulings l.policy l.found.rulings.by_number.entries;
  tally : counted_all l.found.tally (suggestions l.policy (filter_map record_in l.lines))
      ≡ counted_all [] (suggestions l.policy (records_of l.log));
  allowed : (l.found.all_allowed && list_all (record_allowed l.policy) (filter_map record_in l.lines))
      ≡ list_all (record_allowed l.policy) (records_of l.log);
  skipped : l.found.skipped + count_by is_long l.lines ≡ skipped l.log;
  few : total l.found.tally + 7 * length l.lines ≤ 7 * MOST_LOG_BYTES;
  short : l.found.skipped + length l.lines ≤ MOST_LOG_BYTES;
}

abbrev pub decreases-lines : goal.decreases-lines
decreases-lines l = length l.lines
