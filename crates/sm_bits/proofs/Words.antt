-- Bits of a row of words, as they are read and written.
use Rattle.std.proofs.Common.{inl, inr, ◌⊎◌, ◌≡◌, ◌≢◌, ℕ, ◌+◌, ◌*◌, ◌/◌, ◌%◌, ◌^◌, ◌<◌, ◌≤◌, Bool, true, false, not}
use Rattle.std.proofs.Common.{◌&&◌, ◌||◌, eqb, List, length, get_or, set, replicate, length-set, refl, sym, ap, ◌∙◌}
use Rattle.std.proofs.Common.{arith, w64, true≢false}
use Rattle.std.specs.Int.{bit_at, bit_not, trailing_zeros}
use Rattle.std.specs.Prelude.{bit_or, bit_and}
use Rattle.std.specs.Int.Bits.{or_zero_l}
use Rattle.std.proofs.lemmas.Nat.{le_or_l}
use Rattle.std.proofs.lemmas.Bool.{cases_eq, cases_lt, eq-eqb, ne_eqb}
use Rattle.std.proofs.lemmas.Nat.Bits.{bit_at-lt, bit_at-zero, shr_and_one, bit_at_or, bit_at_and, bit_at_not}
use Rattle.std.proofs.lemmas.Nat.Bits.{bit_at_set_same, bit_at_set_other, bit_at-trailing_zeros, bit_at-pow_same}
use Rattle.std.proofs.lemmas.Nat.Bits.{bit_at-pow_other}
use Rattle.std.proofs.lemmas.List.{get_or-set_other, get_or-set_same, get_or_past, get_or-replicate, length-replicate}
use Rattle.std.proofs.lemmas.List.{set_past}
use Rattle.std.proofs.lemmas.Grind.{get_or_default_zero}
use Rattle.sm_bits.specs.Bits.{has}
use Rattle.sm_bits.specs.Sharing.{one_row}

abbrev pub bit_is : ℕ → ℕ → Bool
bit_is w b = eqb (bit_at w b) 1

-- What a read says, with the default that `has` takes.
pub read_is : (xs : List ℕ) (i x : ℕ) → i < length xs → x ≡ get_or xs i x → x ≡ get_or xs i 0
read_is xs i x h e = e ∙ get_or_default_zero xs i x h

-- `has`, unfolded.
pub has_is : (words : List ℕ) (j : ℕ) → has words j ≡ bit_is (get_or words (j / 64) 0) (j % 64)
unfolding has
has_is words j = refl

pub has_past : (words : List ℕ) (j : ℕ) → length words ≤ j / 64 → has words j ≡ false
has_past words j h = has_is words j ∙ (rw (get_or_past words (j / 64) 0 h, bit_at-zero (j % 64)) refl)

pub has_none : (n j : ℕ) → has (replicate n 0) j ≡ false
has_none n j = elim (cases_lt (j / 64) n) [
  | inl h ↦ has_is (replicate n 0) j ∙ (rw (get_or-replicate {A = ℕ} n (j / 64) 0 0 h, bit_at-zero (j % 64)) refl)
  | inr h ↦ has_past (replicate n 0) j (omega (arith, length-replicate {A = ℕ} n 0, h))
]

pub tested : (w k : ℕ) → eqb (bit_and (w / 2 ^ k) 1) 1 ≡ bit_is w k
tested w k = rw (shr_and_one w k) refl

same_place : (i j : ℕ) → j / 64 ≡ i / 64 → j % 64 ≡ i % 64 → j ≡ i
same_place i j h g = omega arith

pub has_added : (words : List ℕ) (i j : ℕ) → i / 64 < length words
    → has (set words (i / 64) (bit_or (get_or words (i / 64) 0) (1 * 2 ^ (i % 64) % 2 ^ 64))) j
    ≡ (eqb j i || has words j)
has_added words i j inside =
    let small : i % 64 < 64 = omega arith in
    let v : ℕ = bit_or (get_or words (i / 64) 0) (1 * 2 ^ (i % 64) % 2 ^ 64) in
    elim (cases_eq (j / 64) (i / 64)) [
      | inl same ↦ (let read : get_or (set words (i / 64) v) (j / 64) 0 ≡ v =
          rw same (get_or-set_same words (i / 64) v 0 inside) in
          elim (cases_eq (j % 64) (i % 64)) [
            | inl at ↦ (let e : eqb j i ≡ true = eq-eqb j i (same_place i j same at) in
                has_is (set words (i / 64) v) j ∙ (rw
                (read, at, bit_at_set_same w64 (get_or words (i / 64) 0) (i % 64) small, e) refl))
            | inr off ↦ (let e : eqb j i ≡ false = ne_eqb j i (λ q. off (ap (λ (n : ℕ). n % 64) q)) in
                has_is (set words (i / 64) v) j ∙ (rw (
                  read,
                  bit_at_set_other w64 (get_or words (i / 64) 0) (i % 64) small (j % 64) off,
                  e,
                  has_is words
                      j,
                  same,
                ) refl))
          ])
      | inr other ↦ (let e : eqb j i ≡ false = ne_eqb j i (λ q. other (ap (λ (n : ℕ). n / 64) q)) in
          has_is (set words (i / 64) v) j ∙ (rw (get_or-set_other words (i / 64) (j / 64) v 0 other, e, has_is words j)
          refl))
    ]

-- ---- a change of all words in turn, by f on bits; the words below i are done
pub record Turned (f : Bool → Bool → Bool) (old new other : List ℕ) (i : ℕ) : Type 0 where
  pub below : (j : ℕ) → j / 64 < i → has new j ≡ f (has old j) (has other j)
  pub above : (j : ℕ) → i ≤ j / 64 → has new j ≡ has old j

pub turned : (f : Bool → Bool → Bool) (old new other : List ℕ) (i v : ℕ) → i < length new
    → ((b : ℕ) → b < 64 → bit_is v b ≡ f (bit_is (get_or new i 0) b) (bit_is (get_or other i 0) b))
    → Turned f old new other i → Turned f old (set new i v) other (i + 1)
turned f old new other i v inside by t = record {
  below = λ j h. elim (cases_eq (j / 64) i) [
    | inl same ↦ (let read : get_or (set new i v) (j / 64) 0 ≡ v = rw same (get_or-set_same new i v 0 inside) in
        let was : bit_is (get_or new i 0) (j % 64) ≡ has old j = sym (rw same at (has_is new j))
        ∙ t.above j (omega arith) in
        let with : bit_is (get_or other i 0) (j % 64) ≡ has other j = sym (rw same at (has_is other j)) in
        has_is (set new i v) j ∙ (rw (read, by (j % 64) (omega arith), was, with) refl))
    | inr diff ↦ has_is (set new i v) j ∙
        (rw (get_or-set_other new i (j / 64) v 0 diff, ← has_is new j) (t.below j (omega arith)))
  ];
  above = λ j h. let diff : j / 64 ≢ i = omega arith in has_is (set new i v) j
      ∙ (rw (get_or-set_other new i (j / 64) v 0 diff, ← has_is new j) (t.above j (omega arith)));
}

-- Past the end, nothing was to be done.
pub turned_all : (f : Bool → Bool → Bool) (old new other : List ℕ) → f false false ≡ false → length new ≡ length old
    → length old ≡ length other
    → (i : ℕ) → length new ≤ i → Turned f old new other i → (j : ℕ) → has new j ≡ f (has old j) (has other j)
turned_all f old new other none e g i end t j = elim (cases_lt (j / 64) (length new)) [
  | inl h ↦ t.below j (omega arith)
  | inr h ↦ (let p : length old ≤ j / 64 = omega arith in let q : length other ≤ j / 64 = omega arith in
      rw (has_past new j h, has_past old j p, has_past other j q, none) refl)
]

pub bit_cases : (x b : ℕ) → (bit_at x b ≡ 0) ⊎ (bit_at x b ≡ 1)
bit_cases x b = let l : bit_at x b < 2 = bit_at-lt x b in
    elim (cases_eq (bit_at x b) 0) [ inl e ↦ inl e | inr e ↦ inr (omega arith) ]

pub or_bits : (x y b : ℕ) → bit_is (bit_or x y) b ≡ (bit_is x b || bit_is y b)
or_bits x y b = rw (bit_at_or x y b) (elim (bit_cases x b) [
  | inl e ↦ elim (bit_cases y b) [ inl g ↦ rw (e, g) refl | inr g ↦ rw (e, g) refl ]
  | inr e ↦ elim (bit_cases y b) [ inl g ↦ rw (e, g) refl | inr g ↦ rw (e, g) refl ]
])

pub and_bits : (x y b : ℕ) → bit_is (bit_and x y) b ≡ (bit_is x b && bit_is y b)
and_bits x y b = rw (bit_at_and x y b) (elim (bit_cases x b) [
  | inl e ↦ elim (bit_cases y b) [ inl g ↦ rw (e, g) refl | inr g ↦ rw (e, g) refl ]
  | inr e ↦ elim (bit_cases y b) [ inl g ↦ rw (e, g) refl | inr g ↦ rw (e, g) refl ]
])

pub not_bits : (y b : ℕ) → y < 2 ^ 64 → b < 64 → bit_is (bit_not w64 y) b ≡ not (bit_is y b)
not_bits y b fits small = rw (bit_at_not w64 y b fits small)
    (elim (bit_cases y b) [ inl e ↦ rw e refl | inr e ↦ rw e refl ])

pub without_bits : (x y b : ℕ) → y < 2 ^ 64 → b < 64
    → bit_is (bit_and x (bit_not w64 y)) b ≡ (bit_is x b && not (bit_is y b))
without_bits x y b fits small = and_bits x (bit_not w64 y) b
    ∙ ap (λ (c : Bool). bit_is x b && c) (not_bits y b fits small)

-- ---- two rows that meet nowhere below word i
pub apart : (xs ys : List ℕ) (i : ℕ) → ((j : ℕ) → j / 64 < i → (has xs j && has ys j) ≡ false)
    → bit_and (get_or xs i 0) (get_or ys i 0) ≡ 0
    → (j : ℕ) → j / 64 < i + 1 → (has xs j && has ys j) ≡ false
apart xs ys i before here j h = elim (cases_eq (j / 64) i) [
  | inl same ↦ rw (has_is xs j, has_is ys j, same)
      (sym (and_bits (get_or xs i 0) (get_or ys i 0) (j % 64)) ∙ (rw (here, bit_at-zero (j % 64)) refl))
  | inr diff ↦ before j (omega arith)
]

pub apart_all : (xs ys : List ℕ) (i : ℕ) → length xs ≤ i → ((j : ℕ) → j / 64 < i → (has xs j && has ys j) ≡ false)
    → (j : ℕ) → (has xs j && has ys j) ≡ false
apart_all xs ys i end before j = elim (cases_lt (j / 64) (length xs)) [
  | inl h ↦ before j (omega arith)
  | inr h ↦ rw (has_past xs j h) refl
]

pub together : (xs ys : List ℕ) (i : ℕ) → 0 < bit_and (get_or xs i 0) (get_or ys i 0)
    → bit_and (get_or xs i 0) (get_or ys i 0) < 2 ^ 64
    → (j : ℕ) × ((has xs j && has ys j) ≡ true)
together xs ys i some fits =
    let w : ℕ = bit_and (get_or xs i 0) (get_or ys i 0) in
    let b : ℕ = trailing_zeros w64 w in
    let found = bit_at-trailing_zeros w64 w some fits in
    let word : (64 * i + b) / 64 ≡ i = omega (arith, found.0) in
    let place : (64 * i + b) % 64 ≡ b = omega (arith, found.0) in (
      64 * i + b,
      rw (has_is xs (64 * i + b), has_is ys (64 * i + b), word, place)
          (sym (and_bits (get_or xs i 0) (get_or ys i 0) b) ∙ (rw found.1 refl)),
    )

-- What two rows have in common below word i, gathered in one word.
pub record Gathered (xs ys : List ℕ) (common i : ℕ) : Type 0 where
  pub none : common ≡ 0 → (j : ℕ) → j / 64 < i → (has xs j && has ys j) ≡ false
  pub some : 0 < common → (j : ℕ) × ((has xs j && has ys j) ≡ true)

pub gathered_none : (xs ys : List ℕ) → Gathered xs ys 0 0
gathered_none xs ys = record { none = λ e j h. absurd (omega arith); some = λ h. absurd (omega arith) }

pub gathered_more : (xs ys : List ℕ) (common i : ℕ) → bit_and (get_or xs i 0) (get_or ys i 0) < 2 ^ 64
    → Gathered xs ys common i
    → Gathered xs ys (bit_or common (bit_and (get_or xs i 0) (get_or ys i 0))) (i + 1)
gathered_more xs ys common i fits before =
    let here : ℕ = bit_and (get_or xs i 0) (get_or ys i 0) in
    elim (cases_eq common 0) [
      | inl zero ↦ rw (zero, or_zero_l here) (record {
        none = λ e. apart xs ys i (before.none zero) e;
        some = λ h. together xs ys i h fits;
      })
      | inr set ↦ (let more : 0 < bit_or common here = omega (arith, le_or_l common here) in
          record { none = λ e. absurd (omega arith); some = λ h. before.some (omega arith) })
    ]

pub gathered_all : (xs ys : List ℕ) (common i : ℕ) → length xs ≤ i → not (eqb common 0) ≡ false
    → Gathered xs ys common i → (j : ℕ) → (has xs j && has ys j) ≡ false
gathered_all xs ys common i end nothing g = elim (cases_eq common 0) [
  | inl zero ↦ apart_all xs ys i end (g.none zero)
  | inr some ↦ absurd (true≢false (rw (ne_eqb common 0 some) at nothing))
]

-- A word that is 0 has no number in it.
pub has_zero : (words : List ℕ) (j i : ℕ) → j / 64 ≡ i → get_or words i 0 ≡ 0 → has words j ≡ false
has_zero words j i at zero = has_is words j ∙ (rw (at, zero, bit_at-zero (j % 64)) refl)

-- ---- the row of a single number

pub one_has : (words i j : ℕ) → i / 64 < words → has (one_row words i) j ≡ eqb j i
unfolding one_row
one_has words i j inside =
    let w : ℕ = 2 ^ (i % 64) in
    let zeros : List ℕ = replicate words 0 in
    let room : i / 64 < length zeros = omega (arith, length-replicate {A = ℕ} words 0, inside) in
    has_is (set zeros (i / 64) w) j ∙ elim (cases_eq (j / 64) (i / 64)) [
      | inl same ↦ (let read : get_or (set zeros (i / 64) w) (j / 64) 0 ≡ w =
          rw same (get_or-set_same zeros (i / 64) w 0 room) in
          elim (cases_eq (j % 64) (i % 64)) [
            | inl at ↦ (let e : eqb j i ≡ true = eq-eqb j i (same_place i j same at) in
                rw (read, at, bit_at-pow_same (i % 64), e) refl)
            | inr off ↦ (let e : eqb j i ≡ false = ne_eqb j i (λ q. off (ap (λ (n : ℕ). n % 64) q)) in
                rw (read, bit_at-pow_other (i % 64) (j % 64) off, e) refl)
          ])
      | inr other ↦ (let e : eqb j i ≡ false = ne_eqb j i (λ q. other (ap (λ (n : ℕ). n / 64) q)) in
          let kept : get_or (set zeros (i / 64) w) (j / 64) 0 ≡ get_or zeros (j / 64) 0 =
          get_or-set_other zeros (i / 64) (j / 64) w 0 other in
          rw (kept, e) (sym (has_is zeros j) ∙ has_none words j))
    ]

pub one_none : (words i j : ℕ) → words ≤ i / 64 → has (one_row words i) j ≡ false
unfolding one_row
one_none words i j past =
    let zeros : List ℕ = replicate words 0 in
    let end : length zeros ≤ i / 64 = omega (arith, length-replicate {A = ℕ} words 0, past) in
    ap (λ (xs : List ℕ). has xs j) (set_past zeros (i / 64) (2 ^ (i % 64)) end) ∙ has_none words j

pub one_room : (words i : ℕ) → length (one_row words i) ≡ words
unfolding one_row
one_room words i = length-set (replicate words 0) (i / 64) (2 ^ (i % 64)) ∙ length-replicate {A = ℕ} words 0
