-- The numbers of a word, from a bit of it on, as bytes are marked one after another.
use Rattle.std.proofs.Common.{inl, inr, ◌≡◌, ◌≢◌, ℕ, ◌+◌, ◌*◌, ◌/◌, ◌%◌, ◌^◌, ◌<◌, ◌≤◌, false, true, ◌&&◌, ◌||◌, eqb}
use Rattle.std.proofs.Common.{List, length, get_or, set, length-set, refl, sym, ap, ◌∙◌, subst, arith, w64}
use Rattle.std.specs.Int.{trailing_zeros}
use Rattle.std.proofs.Math.Bool.{or-false}
use Rattle.std.proofs.lemmas.Bool.{cases_eq, cases_lt}
use Rattle.std.proofs.lemmas.List.{get_or-set_other, get_or-set_same}
use Rattle.sm_bits.specs.Bits.{has, has_bit}
use Rattle.sm_bits.proofs.NextNumbers.{Least, least_found, none_left}

-- Where no bit of the word is left, it has no number from there on.
pub none_behind : (words : List ℕ) (place from j : ℕ) → from < 64 → get_or words place 0 / 2 ^ from ≡ 0
    → 64 * place + from ≤ j → j / 64 ≡ place → has words j ≡ false
none_behind words place from j small zero behind here =
    let at : (64 * place + from) / 64 ≡ place = omega (arith, small) in
    let bit : (64 * place + from) % 64 ≡ from = omega (arith, small) in
    none_left words (64 * place + from) j (get_or words place 0 / 2 ^ from) (rw (at, bit) refl) zero behind
    (omega (arith, at, here))

-- The lowest bit that is left is its least number from there on.
pub least_behind : (words : List ℕ) (place from : ℕ) → from < 64 → get_or words place 0 < 2 ^ 64
    → 0 < get_or words place 0 / 2 ^ from
    → Least words (64 * place + from) (64 * place + (from + trailing_zeros w64 (get_or words place 0 / 2 ^ from)))
least_behind words place from small fits some =
    let at : (64 * place + from) / 64 ≡ place = omega (arith, small) in
    let bit : (64 * place + from) % 64 ≡ from = omega (arith, small) in
    let z : ℕ = trailing_zeros w64 (get_or words place 0 / 2 ^ from) in
    let sum : 64 * place + from + z ≡ 64 * place + (from + z) = omega arith in
    subst (λ (n : ℕ). Least words (64 * place + from) n) sum
    (least_found words (64 * place + from) (get_or words place 0 / 2 ^ from) (rw (at, bit) refl) (rw at fits) some)

-- Bytes of which the numbers of a word below a bit are marked, and no others.
pub record Marked (words bytes old : List ℕ) (place from bit : ℕ) : Type 0 where
  pub inside : (j b : ℕ) → j < length bytes → 64 * place ≤ j → j < 64 * place + from
      → has_bit (get_or bytes j 0) b ≡ (has_bit (get_or old j 0) b || (has words j && eqb b bit))
  pub below : (j : ℕ) → j < length bytes → j < 64 * place → get_or bytes j 0 ≡ get_or old j 0
  pub above : (j : ℕ) → j < length bytes → 64 * place + from ≤ j → get_or bytes j 0 ≡ get_or old j 0

-- One more is marked, the least of those that are left.
pub marked_more : (words bytes old : List ℕ) (place from k v bit : ℕ) → Marked words bytes old place from bit
    → 64 * place + (from + k) < length bytes → has words (64 * place + (from + k)) ≡ true
    → ((j : ℕ) → 64 * place + from ≤ j → j < 64 * place + (from + k) → has words j ≡ false)
    → ((b : ℕ) → has_bit v b ≡ (has_bit (get_or bytes (64 * place + (from + k)) 0) b || eqb b bit))
    → Marked words (set bytes (64 * place + (from + k)) v) old place (from + k + 1) bit
marked_more words bytes old place from k v bit m short one none says =
    let found : ℕ = 64 * place + (from + k) in
    let long : length (set bytes found v) ≡ length bytes = length-set bytes found v in
    record {
      inside = λ j b less low high. elim (cases_eq j found) [
        | inl e ↦ rw (
          e,
          get_or-set_same bytes found v 0 short,
          says b,
          m.above found short (omega (arith)),
          one,
        ) refl
        | inr other ↦ ap (λ x. has_bit x b) (get_or-set_other bytes found j v 0 other)
            ∙ elim (cases_lt j (64 * place + from)) [
              | inl h ↦ m.inside j b (omega (arith, less, long)) low h
              | inr h ↦ rw (
                m.above j (omega (arith, less, long)) h,
                none j h (omega (arith, other, high)),
              ) (sym (or-false (has_bit (get_or old j 0) b)))
            ]
      ];
      below = λ j less low. (let other : j ≢ found = omega (arith, low) in
          get_or-set_other bytes found j v 0 other ∙ m.below j (omega (arith, less, long)) low);
      above = λ j less high. (let other : j ≢ found = omega (arith, high) in
          get_or-set_other bytes found j v 0 other
          ∙ m.above j (omega (arith, less, long)) (omega (arith, high)));
    }
