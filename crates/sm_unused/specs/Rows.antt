-- Rows of types by their numbers, and what tells whether a declaration is of use.
use Rattle.std.specs.Prelude.{◌≡◌, ◌<◌, ◌+◌, ◌/◌, ◌||◌, ℕ, Bool, List, [], length, Option, Some, None}
use Rattle.std.specs.List.{list_any}
use Rattle.std.specs.Str.{bytes_eq}
use Rattle.sm_bits.specs.Bits.{has}
use Rattle.sm_types.specs.Denoting.{types}
use Rattle.sm_types.specs.Names.{at}
use Rattle.sm_rules.specs.declared.kept.Kept.{Kept}
use Rattle.sm_policy.specs.Policy.{Policy}
use Rattle.sm_contexts.specs.Reading.{Entry}
use Rattle.sm_unused.specs.Declarations.{is_given, is_reached, key_line, some_adds, some_rule_has}
use Rattle.sm_unused.specs.declared.uses.Uses.{Uses}

-- A type is in the source or in the target of a kept rule.
abbrev pub is_in_row : ℕ → Kept → Bool
is_in_row t rule = has rule.sources t || has rule.targets t

-- The row has room for each type, and those for which this holds by their names.
pub record HasTypes (policy : Policy) (row : List ℕ) (holds : List ℕ → Bool) : Type 0 where
  pub room : length row ≡ length (types policy.statements) / 64 + 1
  pub says : (t : ℕ) → t < length (types policy.statements) → has row t ≡ holds (at (types policy.statements) t)

-- The parts say this of a policy.
pub record AreUses (policy : Policy) (uses : Uses) : Type 0 where
  pub words : (word : List ℕ) → list_any (bytes_eq word) uses.words ≡ some_rule_has policy.statements word
  pub given : (word : List ℕ) → list_any (bytes_eq word) uses.given ≡ is_given policy.statements word
  pub reached : HasTypes policy uses.reached (is_reached policy)
  pub added : HasTypes policy uses.added (some_adds policy)

-- This is the line for an entry, if there is one.
abbrev pub entry_line : List ℕ → Policy → Option Entry → List ℕ
entry_line path policy None = []
entry_line path policy (Some e) = key_line path policy e
