-- How many accesses are counted for each line of a policy source.
use Rattle.std.specs.Prelude.{◌≡◌, ◌<◌, ◌+◌, ◌-◌, ◌^◌, ℕ, nat_lt, if◌then◌else◌, List, length, Option, Some, None}
use Rattle.std.specs.Prelude.{[], ◌∷◌, count_by, max}
use Rattle.std.proofs.Common.{get_or}
use Rattle.sm_ruletext.specs.declared.statement.RuleKind.TheVariants.{Allow}
use Rattle.sm_types.specs.Denoting.{types}
use Rattle.sm_rules.specs.Keeping.{RulesOf, rules_in}
use Rattle.sm_rules.specs.declared.kept.Kept.{Kept}
use Rattle.sm_policy.specs.Policy.{Policy}
use Rattle.sm_questions.specs.FirstLines.{IsTable}
use Rattle.sm_questions.specs.RuleChanges.{Access, counted, granting_line, granting_words, is_same_line, lines_end}
use Rattle.sm_questions.specs.RuleChanges.{lost_by}
use Rattle.sm_questions.specs.declared.first_lines.LineTable.{LineTable}

-- ---- counts: one for each line up to the last one, and one for the accesses that no rule grants

-- This is the place of a line, if there are so many.
abbrev pub place_of : ℕ → Option ℕ → ℕ
place_of end None = end
place_of end (Some n) = n

-- This is the line at a place.
abbrev pub line_of : ℕ → ℕ → Option ℕ
line_of end p = if nat_lt p end then Some p else None

-- This is the least number that is greater than the lines of all allow rules.
abbrev pub end_of : Policy → ℕ
end_of policy = lines_end (rules_in Allow policy.statements)

-- This is the same of kept rules.
abbrev pub end_of_kept : List Kept → ℕ
end_of_kept [] = 0
end_of_kept (k ∷ rules) = max (k.line + 1) (end_of_kept rules)

-- This is the number of accesses that are counted at a place.
abbrev pub tally : Policy → List Access → ℕ → ℕ
tally policy accesses p = count_by (λ a. is_same_line (line_of (end_of policy) p) (granting_line policy a)) accesses

-- There is a place for each line of an allow rule.
abbrev pub HasPlaces : Policy → List ℕ → Type 0
HasPlaces policy counts = length counts ≡ end_of policy + 1

-- Some accesses are counted.
pub record Adds (policy : Policy) (old new : List ℕ) (accesses : List Access) : Type 0 where
  pub room : length new ≡ length old
  pub each : (p : ℕ) → p < length old → get_or new p 0 ≡ get_or old p 0 + tally policy accesses p

-- So many accesses can be counted.
abbrev pub CanAdd : List ℕ → ℕ → Type 0
CanAdd counts more = (p : ℕ) → p < length counts → get_or counts p 0 + more < 2 ^ 64

-- The accesses that only the first policy allows are counted.
pub record AreCounts (one other : Policy) (counts : List ℕ) : Type 0 where
  pub places : HasPlaces one counts
  pub each : (p : ℕ) → p < length counts → get_or counts p 0 ≡ lost_by one other (line_of (end_of one) p)

-- This is the line for a place of counts.
abbrev pub counted_at : ℕ → List ℕ → List ℕ → List ℕ → ℕ → List ℕ
counted_at sign path text counts p =
    counted sign (get_or counts p 0) (granting_words path text (line_of (length counts - 1) p))

-- ---- a table for all types

-- These are all numbers below one.
pub record AreAll (n : ℕ) (numbers : List ℕ) : Type 0 where
  pub number : length numbers ≡ n
  pub each : (i : ℕ) → i < n → get_or numbers i 0 ≡ i

-- It is a table of the policy's rules for all types.
pub record IsFull (policy : Policy) (table : LineTable) : Type 0 where
  pub rules : RulesOf policy.statements (types policy.statements) table.rules.now
  pub targets : AreAll (length (types policy.statements)) table.targets.now
  pub is : IsTable table
