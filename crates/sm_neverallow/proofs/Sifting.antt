-- The first rule that joins a pair of a matrix, among some, and by groups of sources.
use Rattle.std.proofs.Common.{inl, inr, ◌≡◌, ℕ, ◌+◌, ◌-◌, ◌*◌, ◌/◌, ◌%◌, ◌<◌, ◌≤◌, Bool, true, false, ◌&&◌, ◌||◌, eqb}
use Rattle.std.proofs.Common.{List, length, get_or, Some, All, refl, sym, ◌∙◌, arith, subst, slice_get, true≢false}
use Rattle.std.proofs.lemmas.Bool.{cases_eq, cases_lt, eq-eqb, eqb-true, and_parts, and_from, or_left, or_right}
use Rattle.std.proofs.lemmas.Bool.{false_from_ne_true}
use Rattle.std.proofs.lemmas.Grind.{get_or_default_zero}
use Rattle.std.proofs.lemmas.List.Elements.{All-get_or}
use Rattle.std.proofs.lemmas.Option.{slice_get_read, slice_get_within, get_or_from_slice_get}
use Rattle.sm_bits.specs.Bits.{has, row}
use Rattle.sm_rules.specs.declared.kept.Kept.{Kept}
use Rattle.sm_rules.specs.Keeping.{joins, FitsRule}
use Rattle.sm_matrices.specs.Matrices.{matrix, perm_set, IsDiagonal}
use Rattle.sm_matrices.specs.Uniting.{Unites}
use Rattle.sm_matrices.proofs.Doubling.{any_at, some_row}
use Rattle.sm_neverallow.specs.Hitting.{Misses, Hits, UnionMisses, UnionHits, MissesGroup, AllUnite, AllMiss, SomeHit}
use Rattle.sm_neverallow.specs.Hitting.{MissesGroups, OwnMisses, OwnHits, rule_at, Chosen, FindsFirst}
use Rattle.sm_neverallow.proofs.Meeting.{some_same}

-- ---- places, one by one

-- What holds of the rule at a place.
at_place : (rules : List Kept) (places : List ℕ) (P : Kept → Type 0) (k : ℕ) (x : Kept)
    → get_or places k 0 < length rules → x ≡ get_or rules (get_or places k 0) x → P x
    → (rule : Kept) → rule_at rules places k ≡ Some rule → P rule
at_place rules places P k x inside is here rule found =
    let e : slice_get rules (get_or places k 0) ≡ Some x =
    slice_get_read rules (length rules) (get_or places k 0) x refl inside is in
    subst P (some_same x rule (sym e ∙ found)) here

pub one_more_place : (rules : List Kept) (places : List ℕ) (P : Kept → Type 0) (i : ℕ) (x : Kept)
    → get_or places i 0 < length rules
    → x ≡ get_or rules (get_or places i 0) x → P x
    → ((k : ℕ) (rule : Kept) → k < i → rule_at rules places k ≡ Some rule → P rule)
    → (k : ℕ) (rule : Kept) → k < i + 1 → rule_at rules places k ≡ Some rule → P rule
one_more_place rules places P i x inside is here before k rule h found = elim (cases_eq k i) [
  | inl same ↦ at_place rules places P i x inside is here rule (rw same at found)
  | inr other ↦ before k rule (omega arith) found
]

-- The places rise: what holds before one of them holds of all rules of the set before its rule.
pub all_before : (rules : List Kept) (set end : ℕ) (places : List ℕ) (found place : ℕ) (Skip Hit Miss : Kept → Type 0)
    → ((rule : Kept) → Skip rule → Miss rule)
    → Chosen rules set end Skip places → found < length places
    → place ≡ get_or places found place → FindsFirst rules places (length places) found Hit Miss
    → (n : ℕ) (rule : Kept) → n < place → slice_get rules n ≡ Some rule → perm_set rule ≡ set → Miss rule
all_before rules set end places found place Skip Hit Miss skipped chosen inside is first n rule h here same =
    let read : place ≡ get_or places found 0 = is ∙ get_or_default_zero places found place inside in
    let below : get_or places found 0 < end = chosen.below found inside in
    elim (chosen.all n rule (omega arith) here same) [
      | inr miss ↦ skipped rule miss
      | inl k ↦ (let there : rule_at rules places k.0 ≡ Some rule = rw k.2 here in
          elim (cases_lt k.0 found) [
            | inl before ↦ first.first k.0 rule before there
            | inr behind ↦ elim (cases_eq k.0 found) [
              | inl it ↦ (let e : n ≡ get_or places found 0 = rw it at (sym k.2) in absurd (omega arith))
              | inr other ↦ (let more : get_or places found 0 < get_or places k.0 0 =
                  chosen.rising found k.0 (omega arith) k.1 in absurd (omega (arith, k.2)))
            ]
          ])
    ]

-- What holds of each of the places holds of all rules of the set.
pub all_through : (rules : List Kept) (set end : ℕ) (places : List ℕ) (found : ℕ) (Skip Hit Miss : Kept → Type 0)
    → ((rule : Kept) → Skip rule → Miss rule)
    → Chosen rules set end Skip places → length places ≤ found
    → FindsFirst rules places (length places) found Hit Miss
    → (n : ℕ) (rule : Kept) → n < end → slice_get rules n ≡ Some rule → perm_set rule ≡ set → Miss rule
all_through rules set end places found Skip Hit Miss skipped chosen none first n rule h here same =
    elim (chosen.all n rule h here same) [
      | inr miss ↦ skipped rule miss
      | inl k ↦ (let there : rule_at rules places k.0 ≡ Some rule = rw k.2 here in
          first.first k.0 rule (omega (arith, k.1, none)) there)
    ]

-- ---- one rule, by groups of sources

is_source : (count s : ℕ) (rule : Kept) → FitsRule count rule → has rule.sources s ≡ true → s < count
is_source count s rule fits h = elim (cases_lt s count) [
  | inl inside ↦ inside
  | inr past ↦ absurd (true≢false (sym h ∙ fits.sources_past s past))
]

own_hits : (rows : List (List ℕ)) (count : ℕ) (own : List ℕ) (rule : Kept) → IsDiagonal rows count own
    → FitsRule count rule → OwnHits own rule → Hits rows count rule
own_hits rows count own rule diagonal fits hit =
    let parts = and_parts rule.to_self (has own hit.s && has rule.sources hit.s) hit.both in
    let both = and_parts (has own hit.s) (has rule.sources hit.s) parts.1 in
    let inside : hit.s < count = is_source count hit.s rule fits both.1 in
    let itself : (has rule.targets hit.s || (rule.to_self && eqb hit.s hit.s)) ≡ true =
    or_right (has rule.targets hit.s) (rule.to_self && eqb hit.s hit.s)
    (and_from rule.to_self (eqb hit.s hit.s) parts.0 (eq-eqb hit.s hit.s refl)) in
    record {
      s = hit.s;
      t = hit.s;
      inside = inside;
      both = and_from (has (row rows hit.s) hit.s) (joins hit.s hit.s rule) (sym (diagonal.says hit.s inside) ∙ both.0)
          (and_from (has rule.sources hit.s) (has rule.targets hit.s || (rule.to_self && eqb hit.s hit.s)) both.1
          itself);
    }

group_hits : (rows : List (List ℕ)) (count group : ℕ) (unions : List (List ℕ)) (rule : Kept)
    → Unites rows (8 * group) 8 unions → FitsRule count rule → UnionHits unions group rule
    → Hits rows count rule
group_hits rows count group unions rule united fits hit =
    let parts = and_parts (has (row unions hit.place) hit.t) (has rule.targets hit.t) hit.both in
    let found = some_row rows (8 * group) hit.place 8 hit.t
    (sym (united.says hit.place hit.t hit.chosen.small) ∙ parts.0) in
    let s = 8 * group + found.j in
    let source : has rule.sources s ≡ true = sym (hit.chosen.bits found.j found.inside) ∙ found.chosen in
    let target : (has rule.targets hit.t || (rule.to_self && eqb s hit.t)) ≡ true =
    or_left (has rule.targets hit.t) (rule.to_self && eqb s hit.t) parts.1 in
    record {
      s = s;
      t = hit.t;
      inside = is_source count s rule fits source;
      both = and_from (has (row rows s) hit.t) (joins s hit.t rule) found.there
          (and_from (has rule.sources s) (has rule.targets hit.t || (rule.to_self && eqb s hit.t)) source target);
    }

group_misses : (rows : List (List ℕ)) (group : ℕ) (unions : List (List ℕ)) (rule : Kept)
    → Unites rows (8 * group) 8 unions → UnionMisses unions group rule → MissesGroup rows group rule
group_misses rows group unions rule united miss = record {
  misses = λ k t h. false_from_ne_true
      (has (row rows (8 * group + k)) t && (has rule.sources (8 * group + k) && has rule.targets t)) (λ e.
      let parts = and_parts (has (row rows (8 * group + k)) t) (has rule.sources (8 * group + k) && has rule.targets t)
      e in
      let both = and_parts (has rule.sources (8 * group + k)) (has rule.targets t) parts.1 in
      let there : has (row unions miss.place) t ≡ true = united.says miss.place t miss.chosen.small
      ∙ any_at rows (8 * group) miss.place 8 k t h (miss.chosen.bits k h ∙ both.0) parts.0 in
      true≢false (sym (and_from (has (row unions miss.place) t) (has rule.targets t) there both.1) ∙ miss.misses t));
}

misses_all : (rows : List (List ℕ)) (count : ℕ) (own : List ℕ) (rule : Kept) → IsDiagonal rows count own
    → OwnMisses own rule
    → ((group : ℕ) → group < count / 8 + 1 → MissesGroup rows group rule) → Misses rows count rule
misses_all rows count own rule diagonal alone groups = record {
  misses = λ s t inside. false_from_ne_true (has (row rows s) t && joins s t rule) (λ e.
      let parts = and_parts (has (row rows s) t) (joins s t rule) e in
      let both = and_parts (has rule.sources s) (has rule.targets t || (rule.to_self && eqb s t)) parts.1 in
      by s t inside parts.0 both.0 (has rule.targets t) refl both.1);
}
  where
    by : (s t : ℕ) → s < count → has (row rows s) t ≡ true → has rule.sources s ≡ true → (b : Bool)
        → has rule.targets t ≡ b → (b || (rule.to_self && eqb s t)) ≡ true → ⊥
    by s t inside there source true target or =
        let low : s % 8 < 8 = omega arith in
        let is : 8 * (s / 8) + s % 8 ≡ s = omega arith in
        let none = rw is at ((groups (s / 8) (omega arith)).misses (s % 8) t low) in
        true≢false (sym (and_from (has (row rows s) t) (has rule.sources s && has rule.targets t) there
        (and_from (has rule.sources s) (has rule.targets t) source target)) ∙ none)
    by s t inside there source false target or =
        let itself = and_parts rule.to_self (eqb s t) or in
        let same : t ≡ s = sym (eqb-true s t itself.1) in
        let mine : has own s ≡ true = diagonal.says s inside ∙ (rw same at there) in
        true≢false (sym (and_from rule.to_self (has own s && has rule.sources s) itself.0
        (and_from (has own s) (has rule.sources s) mine source)) ∙ alone.misses s)

-- ---- all groups, one after the other

fits_at : (rules : List Kept) (count n : ℕ) (rule : Kept) → All (FitsRule count) rules → slice_get rules n ≡ Some rule
    → FitsRule count rule
fits_at rules count n rule fits found =
    subst (λ (k : Kept). FitsRule count k) (get_or_from_slice_get rules n rule rule found)
    (All-get_or (FitsRule count) rules n rule (slice_get_within rules n rule found) fits)

pub found_in_groups : (rows : List (List ℕ)) (count first : ℕ) (all : List (List (List ℕ))) (rules : List Kept)
    (places : List ℕ) (end found : ℕ) → length all ≡ 4
    → AllUnite rows first all → All (FitsRule count) rules
    → FindsFirst rules places end found (SomeHit all first) (AllMiss all first)
    → FindsFirst rules places end found (Hits rows count) (MissesGroups rows first 4)
found_in_groups rows count first all rules places end found number united fits f = record {
  within = f.within;
  hit = λ rule h at. (let some = f.hit rule h at in
      group_hits rows count (first + some.j) (matrix all some.j) rule (united.each some.j some.inside)
      (fits_at rules count (get_or places found 0) rule fits at) some.hit);
  first = λ k rule h at. record {
    each = λ j low. (let inside : j < length all = omega arith in
        group_misses rows (first + j) (matrix all j) rule (united.each j inside) ((f.first k rule h at).each j inside));
  };
}

-- What is found once the groups below n are gone through.
pub record Sifted (rows : List (List ℕ)) (rules : List Kept) (places own : List ℕ) (count n found : ℕ) : Type 0 where
  pub within : found ≤ length places
  pub hit : (rule : Kept) → found < length places → rule_at rules places found ≡ Some rule → Hits rows count rule
  pub alone : (k : ℕ) (rule : Kept) → k < found → rule_at rules places k ≡ Some rule → OwnMisses own rule
  pub groups : (group k : ℕ) (rule : Kept) → group < n → k < found → rule_at rules places k ≡ Some rule
      → MissesGroup rows group rule

pub sifted_none : (rows : List (List ℕ)) (rules : List Kept) (places own : List ℕ) (count found : ℕ)
    → IsDiagonal rows count own → All (FitsRule count) rules
    → FindsFirst rules places (length places) found (OwnHits own) (OwnMisses own)
    → Sifted rows rules places own count 0 found
sifted_none rows rules places own count found diagonal fits f = record {
  within = f.within;
  hit = λ rule h at. own_hits rows count own rule diagonal (fits_at rules count (get_or places found 0) rule fits at)
      (f.hit rule h at);
  alone = f.first;
  groups = λ group k rule none. absurd (omega arith);
}

pub sifted_more : (rows : List (List ℕ)) (rules : List Kept) (places own : List ℕ) (count n more old new : ℕ)
    → more ≡ n + 4
    → FindsFirst rules places old new (Hits rows count) (MissesGroups rows n 4)
    → Sifted rows rules places own count n old → Sifted rows rules places own count more new
sifted_more rows rules places own count n more old new is step before =
    let up : new ≤ old = step.within in
    record {
      within = omega (arith, before.within);
      hit = λ rule h here. elim (cases_lt new old) [
        | inl less ↦ step.hit rule less here
        | inr end ↦ (let same : new ≡ old = omega arith in before.hit rule (omega arith) (rw same at here))
      ];
      alone = λ k rule h here. before.alone k rule (omega arith) here;
      groups = λ group k rule low h here. elim (cases_lt group n) [
        | inl earlier ↦ before.groups group k rule earlier (omega arith) here
        | inr now ↦ (let j = group - n in let e : n + j ≡ group = omega arith in
            rw e at ((step.first k rule h here).each j (omega arith)))
      ];
    }

pub sifted_all : (rows : List (List ℕ)) (rules : List Kept) (places own : List ℕ) (count n found : ℕ)
    → IsDiagonal rows count own → count / 8 + 1 ≤ n
    → Sifted rows rules places own count n found → FindsFirst rules places (length places) found (Hits rows count)
    (Misses rows count)
sifted_all rows rules places own count n found diagonal end all = record {
  within = all.within;
  hit = all.hit;
  first = λ k rule h at. misses_all rows count own rule diagonal (all.alone k rule h at)
      (λ group low. all.groups group k rule (omega arith) h at);
}
