-- Entries whose type the policy source doesn't declare.
use Rattle.std.specs.Prelude.{ℕ, Bool, not, if◌then◌else◌, List, find, Option, Some, None, option_map}
use Rattle.sm_values.specs.Contexts.{type_of}
use Rattle.sm_ruletext.specs.declared.statement.Statement.{Statement}
use Rattle.sm_types.specs.Denoting.{declares}
use Rattle.sm_contexts.specs.Reading.{Entry}

-- An entry's type isn't declared.
abbrev pub is_undeclared : List Statement → Entry → Bool
is_undeclared statements e = not (declares statements (type_of e.context))

-- This is the line of an entry, if there is one and its type isn't declared.
abbrev pub undeclared_line : List Statement → Option Entry → Option ℕ
undeclared_line statements None = None
undeclared_line statements (Some e) = if declares statements (type_of e.context) then None else Some e.line

-- This is the line of the first entry whose type isn't declared.
abbrev pub first_undeclared : List Statement → List Entry → Option ℕ
first_undeclared statements entries = option_map (λ e. e.line) (find (is_undeclared statements) entries)
