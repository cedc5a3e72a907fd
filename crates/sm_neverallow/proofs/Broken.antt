-- Neverallow rules against matrices, by the sets of their permissions.
use Rattle.std.proofs.Common.{inl, inr, ◌≡◌, ℕ, ◌+◌, ◌<◌, ◌≤◌, true, false, ◌&&◌, List, length, Some, sym, ap, ◌∙◌}
use Rattle.std.proofs.Common.{arith, slice_get, true≢false}
use Rattle.std.specs.List.{list_any}
use Rattle.std.proofs.lemmas.Bool.{cases_eq, cases_lt, eq-eqb, and_parts, and_from, false_from_ne_true}
use Rattle.sm_bits.specs.Bits.{has, row, has_bit}
use Rattle.sm_rules.specs.declared.kept.Kept.{Kept}
use Rattle.sm_rules.specs.Keeping.{joins, covers}
use Rattle.sm_matrices.specs.Matrices.{matrix, AllCompiled, perm_set, is_of_set, IsUnion}
use Rattle.sm_neverallow.specs.Hitting.{Misses, Hits, IsClear, IsBroken}
use Rattle.sm_neverallow.specs.Violating.{IsApart, Meets}
use Rattle.sm_bits.proofs.ByteBits.{no_bits}
use Rattle.sm_matrices.proofs.Searches.{any_at}
use Rattle.sm_matrices.proofs.Groups.{low_bits}

-- The permissions of a rule of a set are those of the set.
of_set : (rule : Kept) (set b : ℕ) → perm_set rule ≡ set → b < 7 → has_bit rule.perms.0 b ≡ has_bit set b
of_set rule set b same low = sym (low_bits rule.perms.0 b low) ∙ ap (λ (x : ℕ). has_bit x b) same

-- ---- a rule against the union of the matrices of its permissions

pub hits_union : (matrices : List (List (List ℕ))) (count set : ℕ) (rows : List (List ℕ)) (never : Kept)
    → IsUnion matrices count set 7 rows → perm_set never ≡ set
    → Hits rows count never → IsBroken matrices count never
hits_union matrices count set rows never union same hit =
    let parts = and_parts (has (row rows hit.s) hit.t) (joins hit.s hit.t never) hit.both in
    let from = union.only hit.s hit.t hit.inside parts.0 in
    let given : has_bit never.perms.0 from.0 ≡ true = of_set never set from.0 same from.1 ∙ from.2 in
    record {
      b = from.0;
      s = hit.s;
      t = hit.t;
      low = from.1;
      inside = hit.inside;
      both = and_from (has (row (matrix matrices from.0) hit.s) hit.t) (covers from.0 hit.s hit.t never) from.3
          (and_from (joins hit.s hit.t never) (has_bit never.perms.0 from.0) parts.1 given);
    }

pub misses_union : (matrices : List (List (List ℕ))) (count set : ℕ) (rows : List (List ℕ)) (never : Kept)
    → IsUnion matrices count set 7 rows → perm_set never ≡ set
    → Misses rows count never → IsClear matrices count never
misses_union matrices count set rows never union same miss = record {
  clear = λ b s t low inside. false_from_ne_true (has (row (matrix matrices b) s) t && covers b s t never) (λ h.
      let parts = and_parts (has (row (matrix matrices b) s) t) (covers b s t never) h in
      let both = and_parts (joins s t never) (has_bit never.perms.0 b) parts.1 in
      let here : has (row rows s) t ≡ true = union.all b s t low inside (sym (of_set never set b same low) ∙ both.1)
      parts.0 in
      true≢false (sym (and_from (has (row rows s) t) (joins s t never) here both.0) ∙ miss.misses s t inside));
}

-- No rule is of the set.
pub none_of_set : (nevers : List Kept) (set n : ℕ) (never : Kept) → list_any (is_of_set set) nevers ≡ false
    → slice_get nevers n ≡ Some never → perm_set never ≡ set → ⊥
none_of_set nevers set n never none found same =
    true≢false (sym (any_at (is_of_set set) nevers n never found (eq-eqb (perm_set never) set same)) ∙ none)

-- ---- the place that is found once the sets below n are gone through
pub record Sought (matrices : List (List (List ℕ))) (nevers : List Kept) (count n place : ℕ) : Type 0 where
  pub inside : place ≤ length nevers
  pub broken : (never : Kept) → place < length nevers → slice_get nevers place ≡ Some never
      → IsBroken matrices count never
  pub first : (m : ℕ) (never : Kept) → m < place → slice_get nevers m ≡ Some never → perm_set never < n
      → IsClear matrices count never

-- A rule of no permission covers nothing.
clear_of_none : (matrices : List (List (List ℕ))) (count : ℕ) (never : Kept) → perm_set never ≡ 0
    → IsClear matrices count never
clear_of_none matrices count never none = record {
  clear = λ b s t low inside. false_from_ne_true (has (row (matrix matrices b) s) t && covers b s t never) (λ h.
      let given = (and_parts (joins s t never) (has_bit never.perms.0 b)
      (and_parts (has (row (matrix matrices b) s) t) (covers b s t never) h).1).1 in
      true≢false (sym given ∙ (of_set never 0 b none low ∙ no_bits b)));
}

pub sought_none : (matrices : List (List (List ℕ))) (nevers : List Kept) (count : ℕ)
    → Sought matrices nevers count 1 (length nevers)
sought_none matrices nevers count = record {
  inside = omega arith;
  broken = λ never h. absurd (omega arith);
  first = λ m never h found low. clear_of_none matrices count never (omega arith);
}

pub sought_more : (matrices : List (List (List ℕ))) (nevers : List Kept) (count n old new : ℕ) → new ≤ old
    → ((never : Kept) → new < old → slice_get nevers new ≡ Some never → IsBroken matrices count never)
    → ((m : ℕ) (never : Kept) → m < new → slice_get nevers m ≡ Some never → perm_set never ≡ n
    → IsClear matrices count never)
    → Sought matrices nevers count n old → Sought matrices nevers count (n + 1) new
sought_more matrices nevers count n old new up broken first before = record {
  inside = omega (arith, before.inside);
  broken = λ never h found. elim (cases_lt new old) [
    | inl less ↦ broken never less found
    | inr end ↦ (let same : new ≡ old = omega arith in before.broken never (omega arith) (rw same at found))
  ];
  first = λ m never h found low. elim (cases_eq (perm_set never) n) [
    | inl same ↦ first m never h found same
    | inr other ↦ before.first m never (omega arith) found (omega arith)
  ];
}

pub sought_all : (matrices : List (List (List ℕ))) (nevers : List Kept) (count n place : ℕ) → 128 ≤ n
    → Sought matrices nevers count n place
    → (m : ℕ) (never : Kept) → m < place → slice_get nevers m ≡ Some never → IsClear matrices count never
sought_all matrices nevers count n place end all m never h found = all.first m never h found (omega arith)

-- ---- what the matrices represent

pub broken_meets : (allows : List Kept) (matrices : List (List (List ℕ))) (count : ℕ) (never : Kept)
    → AllCompiled allows count 7 matrices
    → IsBroken matrices count never → Meets allows count never
broken_meets allows matrices count never made k = record {
  b = k.b;
  s = k.s;
  t = k.t;
  low = k.low;
  inside = k.inside;
  both = rw ((made.each k.b k.low).says k.s k.t k.inside) at k.both;
}

pub clear_apart : (allows : List Kept) (matrices : List (List (List ℕ))) (count : ℕ) (never : Kept)
    → AllCompiled allows count 7 matrices
    → IsClear matrices count never → IsApart allows count never
clear_apart allows matrices count never made k =
    record { apart = λ b s t low inside. rw ((made.each b low).says s t inside) at (k.clear b s t low inside) }
