-- What an audit sink was given.
use Rattle.std.specs.Prelude.{List, ◌++◌, Option, option_map}
use Rattle.sm_history.specs.declared.records.Record.{Record}

-- These are the records that a sink was given, if they are known, once it was given some more.
abbrev pub with_records : Option (List Record) → List Record → Option (List Record)
with_records given log = option_map (λ earlier. earlier ++ log) given
