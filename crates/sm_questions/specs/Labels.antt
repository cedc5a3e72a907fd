-- What `svcmgr label` writes.
use Rattle.std.specs.Prelude.{ℕ, List, [], ◌++◌, find, Option, Some, None, codes}
use Rattle.sm_values.specs.Messages.{numbered}
use Rattle.sm_contexts.specs.Reading.{Entry, has_key, or_default}
use Rattle.sm_policy.specs.Policy.{Policy}

-- This is the entry that labels a name: the one with this key, otherwise that of `*`.
abbrev pub label_entry : Policy → List ℕ → Option Entry
label_entry policy name = or_default policy.entries (find (has_key name) policy.entries)

-- An entry is written as its context and the number of its line in the contexts file.
abbrev pub entry_line : Entry → List ℕ
entry_line e = e.context ++ numbered (codes " ") e.line ++ codes "\n"

-- There is a line if there is an entry.
abbrev pub line_of : Option Entry → List ℕ
line_of None = []
line_of (Some e) = entry_line e

-- This is the line for a name.
abbrev pub label_line : Policy → List ℕ → List ℕ
label_line policy name = line_of (label_entry policy name)
