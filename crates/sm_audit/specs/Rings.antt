-- The newest records.
use Rattle.std.specs.Prelude.{◌-◌, List, drop, length}
use Rattle.sm_history.specs.declared.records.Record.{Record}
use Rattle.sm_audit.specs.declared.ring.TheConstants.{MOST_RECORDS}

-- These are the last of some records, as many as a ring has at most.
abbrev pub newest_of : List Record → List Record
newest_of records = drop (length records - MOST_RECORDS) records
