-- Which declarations are refused, in the order of the source.
use Rattle.std.specs.Prelude.{ℕ, Bool, true, false, not, ◌&&◌, ◌||◌, nat_le, if◌then◌else◌, List, [], ◌∷◌, ◌++◌}
use Rattle.std.specs.Prelude.{length, find, option_map, Option, Some, None, Result, Ok, Err}
use Rattle.std.specs.Bool.{OnFalse}
use Rattle.std.specs.List.{list_any, list_all}
use Rattle.std.specs.Str.{bytes_eq}
use Rattle.sm_values.specs.Reading.{◌>>=◌}
use Rattle.sm_ruletext.specs.declared.statement.What.{What}
use Rattle.sm_ruletext.specs.declared.statement.What.TheVariants.{Attribute, Declared, Member, Rule, Permissive}
use Rattle.sm_ruletext.specs.declared.statement.Statement.{Statement}
use Rattle.sm_types.specs.declared.TheConstants.{MOST_TYPES, MOST_ATTRIBUTES}
use Rattle.sm_types.specs.declared.symbols.Symbols.{Symbols}
use Rattle.sm_types.specs.declared.fault.TypesFault.{TypesFault}
use Rattle.sm_types.specs.declared.fault.TypesFault.TheVariants.{Twice, Unknown, TooMany, Memory}
use Rattle.sm_types.specs.Names.{Name}

-- Each step has a result or a fault of the declarations.
abbrev pub Step : Type 0 → Type 0
Step A = Result A TypesFault

-- The fault is a failed allocation.
abbrev pub is_memory : TypesFault → Bool
is_memory Memory = true
is_memory (Twice line) = false
is_memory (Unknown line) = false
is_memory TooMany = false

-- ---- declarations

-- These symbols are those of an empty source.
abbrev pub nothing : Symbols
nothing = record { types = []; attributes = [] }

-- A name is declared; types and attributes share one namespace.
abbrev pub is_declared : Symbols → Name → Bool
is_declared symbols name = list_any (bytes_eq name) symbols.types || list_any (bytes_eq name) symbols.attributes

-- A type is declared, unless its name is or there are too many.
unfoldable pub with_type : Symbols → ℕ → Name → Step Symbols
with_type symbols line name =
    if is_declared symbols name then Err (Twice line)
    else if nat_le MOST_TYPES (length symbols.types) then Err TooMany
    else Ok (record { types = symbols.types ++ name ∷ []; attributes = symbols.attributes })

-- An attribute is declared, unless its name is or there are too many.
unfoldable pub with_attribute : Symbols → ℕ → Name → Step Symbols
with_attribute symbols line name =
    if is_declared symbols name then Err (Twice line)
    else if nat_le MOST_ATTRIBUTES (length symbols.attributes) then Err TooMany
    else Ok (record { types = symbols.types; attributes = symbols.attributes ++ name ∷ [] })

-- A statement's content declares a type, an attribute or nothing.
unfoldable pub with_declaration : Symbols → ℕ → What → Step Symbols
with_declaration symbols line (Attribute name) = with_attribute symbols line name
with_declaration symbols line (Declared name names) = with_type symbols line name
with_declaration symbols line (Member name names) = Ok symbols
with_declaration symbols line (Rule kind rule) = Ok symbols
with_declaration symbols line (Permissive n) = Ok symbols

-- All statements are read in order.
unfoldable pub declared : Symbols → List Statement → Step Symbols
declared symbols [] = Ok symbols
declared symbols (st ∷ sts) = with_declaration symbols st.line st.what >>= λ next. declared next sts

-- ---- memberships

-- All names are declared attributes.
abbrev pub all_attributes : Symbols → List Name → Bool
all_attributes symbols names = list_all (λ name. list_any (bytes_eq name) symbols.attributes) names

-- The names of a statement's content are declared as they should be.
abbrev pub members_known : Symbols → What → Bool
members_known symbols (Declared name names) = all_attributes symbols names
members_known symbols (Member name names) = list_any (bytes_eq name) symbols.types && all_attributes symbols names
members_known symbols (Attribute name) = true
members_known symbols (Rule kind rule) = true
members_known symbols (Permissive n) = true

-- This is the line of the first statement with a name that isn't.
abbrev pub first_unknown : Symbols → List Statement → Option ℕ
first_unknown symbols policy = option_map (λ st. st.line) (find (λ st. not (members_known symbols st.what)) policy)

-- A line refuses the symbols.
abbrev pub unless : Option ℕ → Symbols → Step Symbols
unless (Some line) symbols = Err (Unknown line)
unless None symbols = Ok symbols

-- These are the names of a policy, if nothing is refused. All declarations come first, then all memberships.
unfoldable pub symbols_of : List Statement → Step Symbols
symbols_of policy = declared nothing policy >>= λ symbols. unless (first_unknown symbols policy) symbols

-- A claim on a refusal, unless an allocation failed.
abbrev pub UnlessMemory : TypesFault → Type 0 → Type 0
UnlessMemory e P = OnFalse (is_memory e) P

-- Each of these names is declared.
abbrev pub all_declared : Symbols → List Name → Bool
all_declared symbols names = list_all (is_declared symbols) names
