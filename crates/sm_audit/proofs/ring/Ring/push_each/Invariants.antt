use Rattle.std.proofs.Common.{◌≡◌, ◌≤◌, ◌++◌, [], length}
use Rattle.std.specs.Vec.Iter.{drain_items, drain_kept}
use Rattle.sm_audit.specs.Rings.{newest_of}
use Rattle.sm_audit.specs.declared.ring.TheConstants.{MOST_RECORDS}
use Rattle.sm_audit.proofs.ring.Ring.push_each.Given as goal

-- The records that are still to come make the ring what it is to be; no more are kept than a ring holds.
abbrev pub invariant-loop-newest : goal.invariant-loop-newest
invariant-loop-newest l = record {
  newest : newest_of (l.self ++ drain_items l.newest-iterator) ≡ newest_of (l.fn.self ++ l.fn.records.items);
  few : length l.self ≤ MOST_RECORDS;
  kept : drain_kept l.newest-iterator ≡ [];
}
