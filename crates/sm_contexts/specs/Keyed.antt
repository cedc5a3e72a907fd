-- The table of the keys, as entries.
use Rattle.std.specs.Prelude.{ℕ, List}
use Rattle.std.specs.Global.{Vec}
use Rattle.sm_contexts.specs.declared.entries.FirstLine.{FirstLine}
use Rattle.sm_contexts.specs.Reading.{Entry}

-- This is the entry of a key and its first line.
abbrev pub entry : List ℕ → FirstLine → Entry
entry key first = record { line = first.line; key = key; context = first.context }

-- This is the entry of a pair in the table.
abbrev pub entry_of : Vec ℕ × FirstLine → Entry
entry_of e = entry e.0.items e.1

-- This is the first line of an entry.
abbrev pub first_line : Entry → FirstLine
first_line e = record { line = e.line; context = e.context }
