-- Neverallow rules against matrices, and against one by groups of eight sources.
use Rattle.std.specs.Prelude.{◌≡◌, ◌⊎◌, ℕ, true, false, ◌&&◌, ◌+◌, ◌*◌, ◌/◌, ◌<◌, ◌≤◌}
use Rattle.std.specs.Prelude.{List, length, Option, Some, slice_get}
use Rattle.std.proofs.Common.{get_or}
use Rattle.sm_bits.specs.Bits.{has, row, has_bit}
use Rattle.sm_rules.specs.Keeping.{joins, covers}
use Rattle.sm_rules.specs.declared.kept.Kept.{Kept}
use Rattle.sm_matrices.specs.Matrices.{matrix, perm_set}
use Rattle.sm_matrices.specs.Uniting.{AreWide, Unites}

-- ---- rules against matrices

-- The rule joins no pair of the rows.
pub record Misses (rows : List (List ℕ)) (count : ℕ) (rule : Kept) : Type 0 where
  pub misses : (s t : ℕ) → s < count → (has (row rows s) t && joins s t rule) ≡ false

-- The rule joins some pair of the rows.
pub record Hits (rows : List (List ℕ)) (count : ℕ) (rule : Kept) : Type 0 where
  pub s : ℕ
  pub t : ℕ
  pub inside : s < count
  pub both : (has (row rows s) t && joins s t rule) ≡ true

-- The rule covers nothing that the matrices have.
pub record IsClear (matrices : List (List (List ℕ))) (count : ℕ) (rule : Kept) : Type 0 where
  pub clear : (b s t : ℕ) → b < 7 → s < count → (has (row (matrix matrices b) s) t && covers b s t rule) ≡ false

-- The rule covers something that the matrices have.
pub record IsBroken (matrices : List (List (List ℕ))) (count : ℕ) (rule : Kept) : Type 0 where
  pub b : ℕ
  pub s : ℕ
  pub t : ℕ
  pub low : b < 7
  pub inside : s < count
  pub both : (has (row (matrix matrices b) s) t && covers b s t rule) ≡ true

-- ---- eight sources that follow each other

-- The index says which of the eight sources of a group the rule has.
pub record IsPlaceOf (place group : ℕ) (rule : Kept) : Type 0 where
  pub small : place < 256
  pub bits : (b : ℕ) → b < 8 → has_bit place b ≡ has rule.sources (8 * group + b)

-- The union for the rule's sources in the group has none of its targets.
pub record UnionMisses (unions : List (List ℕ)) (group : ℕ) (rule : Kept) : Type 0 where
  pub place : ℕ
  pub chosen : IsPlaceOf place group rule
  pub misses : (t : ℕ) → (has (row unions place) t && has rule.targets t) ≡ false

-- The union for the rule's sources in the group has some of its targets.
pub record UnionHits (unions : List (List ℕ)) (group : ℕ) (rule : Kept) : Type 0 where
  pub place : ℕ
  pub chosen : IsPlaceOf place group rule
  pub t : ℕ
  pub both : (has (row unions place) t && has rule.targets t) ≡ true

-- The rule joins no source of the group to a target of its row, but maybe by `self`.
pub record MissesGroup (rows : List (List ℕ)) (group : ℕ) (rule : Kept) : Type 0 where
  pub misses : (k t : ℕ) → k < 8 → (has (row rows (8 * group + k)) t
      && (has rule.sources (8 * group + k) && has rule.targets t)) ≡ false

-- ---- several groups that follow each other

-- There are unions for eight rows of each of these groups, the first of which is empty.
pub record AreReady (count : ℕ) (all : List (List (List ℕ))) : Type 0 where
  pub number : (j : ℕ) → j < length all → length (matrix all j) ≡ 256
  pub wide : (j : ℕ) → j < length all → AreWide (count / 64 + 1) (matrix all j)
  pub none : (j t : ℕ) → j < length all → has (row (matrix all j) 0) t ≡ false

-- They are the unions of the rows of the groups from the first on.
pub record AllUnite (rows : List (List ℕ)) (first : ℕ) (all : List (List (List ℕ))) : Type 0 where
  pub each : (j : ℕ) → j < length all → Unites rows (8 * (first + j)) 8 (matrix all j)

-- The rule misses each of these groups, by its union.
pub record AllMiss (all : List (List (List ℕ))) (first : ℕ) (rule : Kept) : Type 0 where
  pub each : (j : ℕ) → j < length all → UnionMisses (matrix all j) (first + j) rule

-- The rule hits one of these groups, by its union.
pub record SomeHit (all : List (List (List ℕ))) (first : ℕ) (rule : Kept) : Type 0 where
  pub j : ℕ
  pub inside : j < length all
  pub hit : UnionHits (matrix all j) (first + j) rule

-- The rule misses n groups from the first on.
pub record MissesGroups (rows : List (List ℕ)) (first n : ℕ) (rule : Kept) : Type 0 where
  pub each : (j : ℕ) → j < n → MissesGroup rows (first + j) rule

-- ---- sources that are targets of their own

-- The rule joins none of these sources to itself by `self`.
pub record OwnMisses (own : List ℕ) (rule : Kept) : Type 0 where
  pub misses : (s : ℕ) → (rule.to_self && (has own s && has rule.sources s)) ≡ false

-- The rule joins some of these sources to itself by `self`.
pub record OwnHits (own : List ℕ) (rule : Kept) : Type 0 where
  pub s : ℕ
  pub both : (rule.to_self && (has own s && has rule.sources s)) ≡ true

-- ---- the targets of all sources

-- The rule joins no source to one of these targets.
pub record Escapes (targets : List ℕ) (rule : Kept) : Type 0 where
  pub misses : (t : ℕ) → (has rule.targets t && has targets t) ≡ false
  pub alone : OwnMisses targets rule

-- ---- some of the rules, by their indexes

-- Each index is that of a rule.
pub record ArePlaces (rules : List Kept) (places : List ℕ) : Type 0 where
  pub inside : (k : ℕ) → k < length places → get_or places k 0 < length rules

-- This is the rule whose index is at place k of the list.
abbrev pub rule_at : List Kept → List ℕ → ℕ → Option Kept
rule_at rules places k = slice_get rules (get_or places k 0)

-- These are the indexes of the rules below n with exactly these permissions, in their order, except for some that miss.
pub record Chosen (rules : List Kept) (set n : ℕ) (Miss : Kept → Type 0) (places : List ℕ) : Type 0 where
  pub below : (k : ℕ) → k < length places → get_or places k 0 < n
  pub of_set : (k : ℕ) (rule : Kept) → k < length places → rule_at rules places k ≡ Some rule → perm_set rule ≡ set
  pub all : (m : ℕ) (rule : Kept) → m < n → slice_get rules m ≡ Some rule → perm_set rule ≡ set
      → ((k : ℕ) × (k < length places) × (get_or places k 0 ≡ m)) ⊎ Miss rule
  pub rising : (j k : ℕ) → j < k → k < length places → get_or places j 0 < get_or places k 0

-- This is the first of the indexes below the end whose rule hits, if one does: no rule before it does.
pub record FindsFirst (rules : List Kept) (places : List ℕ) (end found : ℕ) (Hit Miss : Kept → Type 0) : Type 0 where
  pub within : found ≤ end
  pub hit : (rule : Kept) → found < end → rule_at rules places found ≡ Some rule → Hit rule
  pub first : (k : ℕ) (rule : Kept) → k < found → rule_at rules places k ≡ Some rule → Miss rule
