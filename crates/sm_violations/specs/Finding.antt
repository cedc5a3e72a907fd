-- The next violation of a neverallow rule, by number.
use Rattle.std.specs.Prelude.{◌≡◌, ◌+◌, ◌∷◌, ℕ, ◌<◌, ◌≤◌, [], List, Some, slice_get}
use Rattle.sm_ruletext.specs.declared.statement.Statement.{Statement}
use Rattle.sm_types.specs.Members.{IsOf}
use Rattle.sm_types.specs.Names.{Name}
use Rattle.sm_types.specs.declared.table.Table.{Table}
use Rattle.sm_rules.specs.Keeping.{KeptRules, RulesOf}
use Rattle.sm_rules.specs.declared.kept.Kept.{Kept}
use Rattle.sm_matrices.specs.Matrices.{AllCompiled}
use Rattle.sm_neverallow.specs.Violating.{AreApart, IsBetween}
use Rattle.sm_policy.specs.Violating.{named_violation}
use Rattle.sm_violations.specs.Bounding.{AllBound}
use Rattle.sm_violations.specs.Listing.{violations_left}
use Rattle.sm_violations.specs.declared.bounds.Bounds.{Bounds}
use Rattle.sm_violations.specs.declared.violations.Found.{Found}
use Rattle.sm_violations.specs.declared.violations.Next.{Next}

-- No allow rule from the index `start` on has anything in common with the neverallow rule.
pub record AreApartFrom (allows : List Kept) (never : Kept) (count start : ℕ) : Type 0 where
  pub apart : (i : ℕ) (allow : Kept) → start ≤ i → slice_get allows i ≡ Some allow → AreApart allow never count

-- It is the violation by the first allow rule from the index `start` on that has something in common with the
-- neverallow rule.
pub record IsFirstFrom (allows : List Kept) (never : Kept) (count start : ℕ) (found : Found) : Type 0 where
  pub place : ℕ
  pub allow : Kept
  pub behind : start ≤ place
  pub next : found.next ≡ place + 1
  pub there : slice_get allows place ≡ Some allow
  pub between : IsBetween allow never count found.violation
  pub no_earlier : (i : ℕ) (other : Kept) → start ≤ i → i < place → slice_get allows i ≡ Some other
      → AreApart other never count

-- Whatever policy the rules are of, none of its violations is left.
abbrev pub IsEnd : KeptRules → ℕ → ℕ → Type 0
IsEnd rules never allow = (policy : List Statement) (names : List Name) → RulesOf policy names rules
    → violations_left policy never allow ≡ []

-- Whatever policy the rules are of, this is the first of its violations that are left, and tells where the others are.
abbrev pub IsNext : KeptRules → ℕ → ℕ → Next → Type 0
IsNext rules never allow next = (policy : List Statement) (names : List Name) → RulesOf policy names rules
    → violations_left policy never allow
    ≡ named_violation names next.violation ∷ violations_left policy next.never next.allow

-- The types and rules are those of the statements, and the matrices and their bounds those of the rules.
pub record AreOf (statements : List Statement) (types : Table) (rules : KeptRules) (matrices : List (List (List ℕ)))
    (bounds : List Bounds) : Type 0 where
  pub typed : IsOf statements types
  pub ruled : RulesOf statements types.symbols.types rules
  pub compiled : AllCompiled rules.allows rules.count 7 matrices
  pub bound : AllBound matrices rules.count bounds
