-- The types that are asked for, and the lines of the first allow rules that grant sources their permissions.
use Rattle.std.proofs.Common.{get_or}
use Rattle.std.specs.Prelude.{◌≡◌, ◌==◌, ◌<◌, ◌≤◌, ◌+◌, ◌*◌, ℕ, Bool, if◌then◌else◌, List, All, length, slice_get}
use Rattle.std.specs.Prelude.{Option}
use Rattle.std.specs.Prelude.{Some, None, map}
use Rattle.std.specs.List.{filter, filter_map}
use Rattle.std.specs.Option.{option_or}
use Rattle.sm_types.specs.Names.{Name, at}
use Rattle.sm_types.specs.Denoting.{types}
use Rattle.sm_rules.specs.Keeping.{RulesOf, covered_line, class_at, perm_at}
use Rattle.sm_rules.specs.declared.kept.Kept.{Kept}
use Rattle.sm_policy.specs.Policy.{Policy, written_at}
use Rattle.sm_questions.specs.Accesses.{is_left}
use Rattle.sm_questions.specs.declared.filtering.Filter.{Filter}
use Rattle.sm_questions.specs.declared.first_lines.LineTable.{LineTable}

-- These are the numbers of the types that are asked for, in the order of their declaration.
pub record AreAsked (names : List Name) (wanted : Option (List ℕ)) (numbers : List ℕ) : Type 0 where
  pub inside : All (λ i. i < length names) numbers
  pub picked : map (at names) numbers ≡ filter (is_left wanted) names

-- A table has seven lines for each type. This is the one for permission b of type t.
abbrev pub line_in : List (Option ℕ) → ℕ → ℕ → Option ℕ
line_in lines b t = get_or lines (7 * t + b) None

-- A line is kept where there is none yet.
abbrev pub kept_line : Bool → ℕ → Option ℕ → Option ℕ
kept_line here line old = if here then option_or old (Some line) else old

-- These are the rules at some indexes.
abbrev pub rules_at : List Kept → List ℕ → List Kept
rules_at rules indexes = filter_map (slice_get rules) indexes

-- For a source from a number on and below another one, the rules at these indexes have the lines of all rules.
pub record AreNear (rules : List Kept) (from to : ℕ) (near : List ℕ) : Type 0 where
  pub inside : All (λ i. i < length rules) near
  pub line : (b s t : ℕ) → from ≤ s → s < to
      → covered_line (rules_at rules near) b s t ≡ covered_line rules b s t

-- This is the type under whose number a table for these targets has the lines for source s and target t.
abbrev pub place_in : List ℕ → ℕ → ℕ → ℕ
place_in targets s t = if length targets == 1 then s else t

-- The line of the first rule for each permission of the source on each target is found.
abbrev pub HasFound : List (Option ℕ) → List Kept → List ℕ → ℕ → Type 0
HasFound lines rules targets s =
    All (λ t. (b : ℕ) → b < 7 → line_in lines b (place_in targets s t) ≡ covered_line rules b s t) targets

-- The table has room for the lines of the rules' types, and the rules near the sources of its block. For a single
-- target, it has the lines of all sources.
pub record IsTable (table : LineTable) : Type 0 where
  pub room : length table.lines.items ≡ 7 * table.rules.now.count
  pub inside : All (λ t. t < table.rules.now.count) table.targets.now
  pub near : AreNear table.rules.now.allows table.from table.to table.near.items
  pub single : length table.targets.now ≡ 1
      → (s : ℕ) → HasFound table.lines.items table.rules.now.allows table.targets.now s

-- It is a table for the targets that are asked for.
pub record IsAsked (policy : Policy) (filter : Filter) (table : LineTable) : Type 0 where
  pub rules : RulesOf policy.statements (types policy.statements) table.rules.now
  pub targets : AreAsked (types policy.statements) filter.target table.targets.now
  pub is : IsTable table

-- The table has the line of the first allow rule that grants the source each permission on the target.
pub record HasPair (policy : Policy) (table : LineTable) (s t : ℕ) : Type 0 where
  pub source : s < length (types policy.statements)
  pub target : t < length (types policy.statements)
  pub room : length table.lines.items ≡ 7 * table.rules.now.count
  pub count : table.rules.now.count ≡ length (types policy.statements)
  pub line : (b : ℕ) → b < 7 → line_in table.lines.items b (place_in table.targets.now s t)
      ≡ written_at policy (at (types policy.statements) s) (at (types policy.statements) t) (class_at b) (perm_at b)
