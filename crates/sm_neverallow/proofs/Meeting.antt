-- What two rules have in common, and walks over rules.
use Rattle.std.proofs.Common.{inl, inr, ◌≡◌, ℕ, ◌+◌, ◌<◌, ◌≤◌, Bool, true, false, ◌&&◌, List, length, get_or, Some}
use Rattle.std.proofs.Common.{refl, sym, ◌∙◌, arith, subst, slice_get, true≢false}
use Rattle.std.proofs.lemmas.Bool.{cases_eq}
use Rattle.std.proofs.lemmas.Option.{slice_get_read, slice_get_within}
use Rattle.sm_rules.specs.declared.kept.Kept.{Kept}
use Rattle.sm_bits.specs.Bits.{has_bit}
use Rattle.sm_rules.specs.Keeping.{joins}
use Rattle.sm_neverallow.specs.Violating.{both_join, clashes}

parts_apart : (x y p q : Bool) → (x && y) ≡ false → ((x && p) && (y && q)) ≡ false
parts_apart true true p q h = absurd (true≢false h)
parts_apart true false true q h = refl
parts_apart true false false q h = refl
parts_apart false y p q h = refl

bits_apart : (x y p q : Bool) → (p && q) ≡ false → ((x && p) && (y && q)) ≡ false
bits_apart x y true true h = absurd (true≢false h)
bits_apart true true true false h = refl
bits_apart true false true false h = refl
bits_apart false y true false h = refl
bits_apart true y false q h = refl
bits_apart false y false q h = refl

all_true : (x y p q : Bool) → (x && y) ≡ true → (p && q) ≡ true → ((x && p) && (y && q)) ≡ true
all_true true true true true h g = refl
all_true true true true false h g = absurd (true≢false (sym g))
all_true true true false q h g = absurd (true≢false (sym g))
all_true true false p q h g = absurd (true≢false (sym h))
all_true false y p q h g = absurd (true≢false (sym h))

pub not_joined : (b s t : ℕ) (allow never : Kept) → both_join s t allow never ≡ false
    → clashes b s t allow never ≡ false
not_joined b s t allow never h = parts_apart (joins s t allow) (joins s t never) (has_bit allow.perms.0 b)
    (has_bit never.perms.0 b) h

pub not_given : (b s t : ℕ) (allow never : Kept) → (has_bit allow.perms.0 b && has_bit never.perms.0 b) ≡ false
    → clashes b s t allow never ≡ false
not_given b s t allow never h = bits_apart (joins s t allow) (joins s t never) (has_bit allow.perms.0 b)
    (has_bit never.perms.0 b) h

pub both_given : (b s t : ℕ) (allow never : Kept) → both_join s t allow never ≡ true
    → (has_bit allow.perms.0 b && has_bit never.perms.0 b) ≡ true
    → clashes b s t allow never ≡ true
both_given b s t allow never h g = all_true (joins s t allow) (joins s t never) (has_bit allow.perms.0 b)
    (has_bit never.perms.0 b) h g

pub some_same : {X : Type 0} (x y : X) → Some x ≡ Some y → x ≡ y
some_same x y h = cc h

-- What holds of each item before one, and of that one.
pub one_more : {X : Type 0} (xs : List X) (P : X → Type 0) (i : ℕ) (x : X) → i < length xs → x ≡ get_or xs i x → P x
    → ((k : ℕ) (y : X) → k < i → slice_get xs k ≡ Some y → P y) → (k : ℕ) (y : X) → k < i + 1 → slice_get xs k ≡ Some y
    → P y
one_more xs P i x inside is here before k y h found = elim (cases_eq k i) [
  | inl same ↦ (let e : slice_get xs i ≡ Some x = slice_get_read xs (length xs) i x refl inside is in
      subst P (some_same x y (sym e ∙ (rw same at found))) here)
  | inr other ↦ before k y (omega arith) found
]

pub to_the_end : {X : Type 0} (xs : List X) (P : X → Type 0) (i : ℕ) → length xs ≤ i
    → ((k : ℕ) (y : X) → k < i → slice_get xs k ≡ Some y → P y) → (k : ℕ) (y : X) → slice_get xs k ≡ Some y → P y
to_the_end xs P i end before k y found = let h : k < length xs = slice_get_within xs k y found in
    before k y (omega arith) found
