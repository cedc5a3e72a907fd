-- Neverallow rules, and the allow rules that break them.
use Rattle.std.specs.Prelude.{◌≡◌, ℕ, Bool, true, false, ◌&&◌, ◌<◌, List, length, Some, slice_get}
use Rattle.sm_ruletext.specs.declared.rule.Rule.{Rule}
use Rattle.sm_ruletext.specs.declared.statement.RuleKind.TheVariants.{Allow, Neverallow}
use Rattle.sm_types.specs.Names.{Name, at}
use Rattle.sm_types.specs.Denoting.{Policy}
use Rattle.sm_rules.specs.Access as access
use Rattle.sm_rules.specs.Keeping.{joins, covers, covered, class_at, perm_at, rules_in}
use Rattle.sm_rules.specs.declared.kept.Kept.{Kept}
use Rattle.sm_neverallow.specs.declared.violation.NumberedViolation.{NumberedViolation}

-- ---- by number: permission b, source s and target t

-- Two rules both join s to t.
abbrev pub both_join : ℕ → ℕ → Kept → Kept → Bool
both_join s t allow never = joins s t allow && joins s t never

-- Two rules both cover permission b on s and t.
abbrev pub clashes : ℕ → ℕ → ℕ → Kept → Kept → Bool
clashes b s t allow never = covers b s t allow && covers b s t never

-- The neverallow rule covers nothing that some allow rule covers.
pub record IsApart (allows : List Kept) (count : ℕ) (never : Kept) : Type 0 where
  pub apart : (b s t : ℕ) → b < 7 → s < count → (covered allows b s t && covers b s t never) ≡ false

-- It covers something that some allow rule covers.
pub record Meets (allows : List Kept) (count : ℕ) (never : Kept) : Type 0 where
  pub b : ℕ
  pub s : ℕ
  pub t : ℕ
  pub low : b < 7
  pub inside : s < count
  pub both : (covered allows b s t && covers b s t never) ≡ true

-- The two rules have nothing in common.
pub record AreApart (allow never : Kept) (count : ℕ) : Type 0 where
  pub apart : (b s t : ℕ) → b < 7 → s < count → t < count → clashes b s t allow never ≡ false

-- The violation is the first thing that the two rules have in common: the least source, then the
-- least target, then the lowest permission.
pub record IsBetween (allow never : Kept) (count : ℕ) (v : NumberedViolation) : Type 0 where
  pub never_line : v.never_line ≡ never.line
  pub allow_line : v.allow_line ≡ allow.line
  pub bit : ℕ
  pub low : bit < 7
  pub class : v.class ≡ class_at bit
  pub perm : v.perm ≡ perm_at bit
  pub source : v.source < count
  pub target : v.target < count
  pub both : clashes bit v.source v.target allow never ≡ true
  pub no_lesser_source : (b s t : ℕ) → s < v.source → b < 7 → t < count → clashes b s t allow never ≡ false
  pub no_lesser_target : (b t : ℕ) → t < v.target → b < 7 → clashes b v.source t allow never ≡ false
  pub no_lesser_perm : (b : ℕ) → b < bit → clashes b v.source v.target allow never ≡ false

-- The violation is that of the first of these allow rules that has something in common with the neverallow rule.
pub record IsFirstOf (allows : List Kept) (never : Kept) (count : ℕ) (v : NumberedViolation) : Type 0 where
  pub place : ℕ
  pub allow : Kept
  pub found : slice_get allows place ≡ Some allow
  pub between : IsBetween allow never count v
  pub no_earlier : (i : ℕ) (other : Kept) → i < place → slice_get allows i ≡ Some other → AreApart other never count

-- The same for the first of these neverallow rules that has something in common with an allow rule.
pub record IsFirstAmong (allows neverallows : List Kept) (count : ℕ) (v : NumberedViolation) : Type 0 where
  pub place : ℕ
  pub never : Kept
  pub found : slice_get neverallows place ≡ Some never
  pub first : IsFirstOf allows never count v
  pub no_earlier : (n : ℕ) (other : Kept) → n < place → slice_get neverallows n ≡ Some other
      → IsApart allows count other

-- No allow rule has anything in common with a neverallow rule.
pub record AllApart (allows neverallows : List Kept) (count : ℕ) : Type 0 where
  pub apart : (n : ℕ) (never : Kept) → slice_get neverallows n ≡ Some never → IsApart allows count never

-- ---- by name

-- The allow rule and the neverallow rule both cover permission b on the types of these numbers.
abbrev pub breaks : Policy → List Name → ℕ → ℕ → ℕ → Rule → Rule → Bool
breaks policy names b s t allow never =
    access.covers policy (at names s) (at names t) (class_at b) (perm_at b) allow
    && access.covers policy (at names s) (at names t) (class_at b) (perm_at b) never

-- The first violation of the policy, whose types have these names: of the first neverallow rule that
-- is broken, by the first allow rule that breaks it; then of the least source, the least target and the
-- lowest permission. Types come in the order of their declaration, permissions in that of their bits.
pub record IsFirstViolation (policy : Policy) (names : List Name) (v : NumberedViolation) : Type 0 where
  pub never_place : ℕ
  pub allow_place : ℕ
  pub never : ℕ × Rule
  pub allow : ℕ × Rule
  pub never_found : slice_get (rules_in Neverallow policy) never_place ≡ Some never
  pub allow_found : slice_get (rules_in Allow policy) allow_place ≡ Some allow
  pub never_line : v.never_line ≡ never.0
  pub allow_line : v.allow_line ≡ allow.0
  pub bit : ℕ
  pub low : bit < 7
  pub class : v.class ≡ class_at bit
  pub perm : v.perm ≡ perm_at bit
  pub source : v.source < length names
  pub target : v.target < length names
  pub broken : breaks policy names bit v.source v.target allow.1 never.1 ≡ true
  pub no_earlier_never : (n a b s t : ℕ) (other from : ℕ × Rule) → n < never_place
      → slice_get (rules_in Neverallow policy) n ≡ Some other
      → slice_get (rules_in Allow policy) a ≡ Some from → b < 7 → s < length names → t < length names
      → breaks policy names b s t from.1 other.1 ≡ false
  pub no_earlier_allow : (a b s t : ℕ) (other : ℕ × Rule) → a < allow_place
      → slice_get (rules_in Allow policy) a ≡ Some other
      → b < 7 → s < length names → t < length names → breaks policy names b s t other.1 never.1 ≡ false
  pub no_lesser_source : (b s t : ℕ) → s < v.source → b < 7 → t < length names
      → breaks policy names b s t allow.1 never.1 ≡ false
  pub no_lesser_target : (b t : ℕ) → t < v.target → b < 7 → breaks policy names b v.source t allow.1 never.1 ≡ false
  pub no_lesser_perm : (b : ℕ) → b < bit → breaks policy names b v.source v.target allow.1 never.1 ≡ false
