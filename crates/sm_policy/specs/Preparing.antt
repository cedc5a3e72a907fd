-- The result of reading the two files of a policy: a policy, or the first refusal.
use Rattle.std.specs.Prelude.{ℕ, ◌+◌, Bool, true, false, not, ◌&&◌, if◌then◌else◌, List, [], ◌∷◌, Option, Some, None}
use Rattle.std.specs.Prelude.{Result, Ok, Err}
use Rattle.sm_values.specs.Contexts.{type_of}
use Rattle.sm_values.specs.Reading.{◌>>=◌}
use Rattle.sm_ruletext.specs.declared.fault.RuleTextFault.{RuleTextFault}
use Rattle.sm_ruletext.specs.declared.fault.RuleTextFault.TheVariants as text
use Rattle.sm_ruletext.specs.declared.statement.Statement.{Statement}
use Rattle.sm_ruletext.specs.Statements as rules
use Rattle.sm_types.specs.declared.fault.TypesFault.{TypesFault}
use Rattle.sm_types.specs.declared.fault.TypesFault.TheVariants as types
use Rattle.sm_types.specs.Declaring.{symbols_of}
use Rattle.sm_types.specs.Denoting.{declares}
use Rattle.sm_rules.specs.declared.fault.RulesFault.{RulesFault}
use Rattle.sm_rules.specs.declared.fault.RulesFault.TheVariants as access
use Rattle.sm_rules.specs.Faults.{first_fault}
use Rattle.sm_contexts.specs.declared.fault.ContextsFault.{ContextsFault}
use Rattle.sm_contexts.specs.declared.fault.ContextsFault.TheVariants as labels
use Rattle.sm_contexts.specs.Lines.{lines, first_word, after_word}
use Rattle.sm_contexts.specs.Reading.{Entry, is_entry}
use Rattle.sm_contexts.specs.Reading as contexts
use Rattle.sm_policy.specs.declared.fault.PolicyFault.{PolicyFault}
use Rattle.sm_policy.specs.declared.fault.PolicyFault.TheVariants.{Rules, Types, Access, Contexts, UndeclaredLabel}
use Rattle.sm_policy.specs.declared.fault.PolicyFault.TheVariants.{Neverallow, Memory}
use Rattle.sm_policy.specs.Policy.{Policy}
use Rattle.sm_policy.specs.Violating.{first_violation}

-- Each step of reading has a result or a fault of the policy.
abbrev pub Step : Type 0 → Type 0
Step A = Result A PolicyFault

-- The fault is a failed allocation.
abbrev pub is_memory : PolicyFault → Bool
is_memory Memory = true
is_memory e = false

-- ---- faults of each part, as faults of the policy

-- A fault of the policy source is this fault of the policy.
abbrev pub of_text : RuleTextFault → PolicyFault
of_text text.Memory = Memory
of_text e = Rules e

-- A fault of the declarations is this fault of the policy.
abbrev pub of_types : TypesFault → PolicyFault
of_types types.Memory = Memory
of_types e = Types e

-- A fault of the rules is this fault of the policy.
abbrev pub of_access : RulesFault → PolicyFault
of_access access.Memory = Memory
of_access e = Access e

-- A fault of the contexts file is this fault of the policy.
abbrev pub of_contexts : ContextsFault → PolicyFault
of_contexts labels.Memory = Memory
of_contexts e = Contexts e

-- A part's result has its fault as a fault of the policy.
abbrev pub through : {A E : Type 0} → (E → PolicyFault) → Result A E → Step A
through f (Ok x) = Ok x
through f (Err e) = Err (f e)

-- A fault, if there is one, refuses the policy.
abbrev pub refused_by : {A E : Type 0} → (E → PolicyFault) → Option E → A → Step A
refused_by f None x = Ok x
refused_by f (Some e) x = Err (f e)

-- ---- the policy source

-- These are the statements of a policy source.
unfoldable pub rules_of : List ℕ → Step (List Statement)
rules_of bytes = through of_text (rules.read bytes)

-- Statements are refused if an allow rule allows what a neverallow rule forbids.
unfoldable pub unbroken : List Statement → Step (List Statement)
unbroken statements = refused_by Neverallow (first_violation statements) statements

-- ---- the contexts file

-- An entry line has a context whose type the policy source doesn't declare.
abbrev pub is_undeclared_line : List Statement → List ℕ → Bool
is_undeclared_line statements line = is_entry line && not (declares statements (type_of (first_word (after_word line))))

-- This is the first such line, from line n on. A line that repeats a key counts, too.
abbrev pub undeclared_from : List Statement → ℕ → List (List ℕ) → Option ℕ
undeclared_from statements n [] = None
undeclared_from statements n (line ∷ more) =
    if is_undeclared_line statements line then Some n else undeclared_from statements (n + 1) more

-- These are the entries of a contexts file, all of whose types are declared.
unfoldable pub labels_of : List Statement → List ℕ → Step (List Entry)
labels_of statements text =
    through of_contexts (contexts.read text)
    >>= λ entries. refused_by UndeclaredLabel (undeclared_from statements 1 (lines text)) entries

-- This is the policy of a policy source and a contexts file, or the first refusal in this order: the grammar of the
-- policy source, its declarations, its rules, the contexts file and its types, the neverallow rules.
unfoldable pub prepared : List ℕ → List ℕ → Step Policy
prepared rules contexts = do
  statements ← rules_of rules
  symbols ← through of_types (symbols_of statements)
  accepted ← refused_by of_access (first_fault statements) statements
  entries ← labels_of statements contexts
  consistent ← unbroken statements
  Ok (record { statements = statements; entries = entries })
