-- A set that is kept as a single number.
use Rattle.std.proofs.Common.{inl, inr, ◌≡◌, ℕ, ◌<◌, ◌≤◌, ◌*◌, ◌/◌, Bool, true, false, ◌&&◌, eqb, List, length, refl}
use Rattle.std.proofs.Common.{subst, sym, ap, ◌∙◌, arith}
use Rattle.std.specs.Bool.{IsTrue}
use Rattle.std.proofs.lemmas.Bool.{eq-eqb, ne_eqb, cases_eq, cases_lt, and_right}
use Rattle.sm_bits.specs.Bits.{has}
use Rattle.sm_bits.specs.Sharing.{one_row, row_of}
use Rattle.sm_bits.specs.declared.shared_set.Shape.{Shape}
use Rattle.sm_bits.specs.declared.shared_set.Shape.TheVariants.{One}
use Rattle.sm_bits.proofs.Words.{one_has, one_none, one_room}

-- The row has n alone, or nothing where n is past its end.
pub record IsOne (row : List ℕ) (words n : ℕ) : Type 0 where
  pub room : length row ≡ words
  pub inside : (j : ℕ) → n / 64 < words → has row j ≡ eqb j n
  pub outside : (j : ℕ) → words ≤ n / 64 → has row j ≡ false

is_one : (words n : ℕ) → IsOne (one_row words n) words n
is_one words n = record {
  room = one_room words n;
  inside = λ j h. one_has words n j h;
  outside =
      λ j h. one_none words n j h;
}

pub one_is : (row : List ℕ) (words n m : ℕ) (shape : Shape) → row_of words shape ≡ row → shape ≡ One n → m ≡ n
    → IsOne row words m
one_is row words n m shape view is same =
    subst (λ (k : ℕ). IsOne row words k) (sym same)
    (subst (λ (xs : List ℕ). IsOne xs words n) (sym (ap (row_of words) is) ∙ view) (is_one words n))

pub one_here : (row : List ℕ) (words n : ℕ) → IsOne row words n → n / 64 < words → has row n ≡ true
one_here row words n one h = one.inside n h ∙ eq-eqb n n refl

pub one_elsewhere : (row : List ℕ) (words n j : ℕ) → IsOne row words n → (j ≡ n → ⊥) → has row j ≡ false
one_elsewhere row words n j one other = elim (cases_lt (n / 64) words) [
  | inl h ↦ one.inside j h ∙ ne_eqb j n other
  | inr h ↦ one.outside j h
]

-- Its number has a bit in any row of the same length.
pub one_within : (row other : List ℕ) (words n : ℕ) → IsOne row words n → length row ≡ length other → n / 64 < words
    → n < 64 * length other
one_within row other words n one same h = let room = one.room in omega (arith, room, same, h)

pub one_has_not : (row other : List ℕ) (words n j : ℕ) (b : Bool) → IsOne row words n → b ≡ has other n → b ≡ false
    → (has row j && has other j) ≡ false
one_has_not row other words n j b one is none = elim (cases_eq j n) [
  | inl same ↦ (let e : has other j ≡ false = ap (has other) same ∙ (sym is ∙ none) in
      rw e (and_right (has row j) false refl))
  | inr off ↦ rw (one_elsewhere row words n j one off) refl
]

pub one_has_some : (row other : List ℕ) (words n : ℕ) (b : Bool) → IsOne row words n → n / 64 < words → b ≡ has other n
    → IsTrue b → (j : ℕ) × IsTrue (has row j && has other j)
one_has_some row other words n b one h is some =
    (n, rw (one_here row words n one h) (subst IsTrue is some))
