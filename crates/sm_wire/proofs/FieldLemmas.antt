-- Where the first field of a line ends.
use Rattle.std.proofs.Common.{◌≡◌, ◌≢◌, ℕ, zero, suc, ◌+◌, ◌-◌, ◌<◌, List, [], ◌∷◌, length, take, drop, get_or, refl}
use Rattle.std.proofs.Common.{true, false, add-one, length-drop, arith}
use Rattle.std.proofs.Math.Seq.{take-length}
use Rattle.std.proofs.lemmas.List.{get_or-take}
use Rattle.std.proofs.Common.{inl, inr, sym, ◌∙◌}
use Rattle.std.proofs.lemmas.Bool.{cases_eq}
use Rattle.std.specs.Str.{bytes_eq}
use Rattle.std.proofs.lemmas.Bool.Decides.{nat_tests}
use Rattle.std.specs.Prelude.{◌==◌, cond, IsTrue}
use Rattle.std.specs.List.{list_all, onto_first}
use Rattle.sm_values.specs.Contexts.{is_graphic}
use Rattle.sm_wire.specs.Fields.{fields_of, first_is, is_spaceless}
use Rattle.sm_wire.specs.Grammar.{has_fields}

pub fields_of-space : (x : ℕ) (xs : List ℕ) → x ≡ 32 → fields_of (x ∷ xs) ≡ [] ∷ fields_of xs
fields_of-space x xs e = rw e refl

pub fields_of-plain : (x : ℕ) (xs : List ℕ) → x ≢ 32 → fields_of (x ∷ xs) ≡ onto_first x (fields_of xs)
fields_of-plain x xs n = grind (arith, nat_tests)

-- There is always a field, even of no bytes.
pub some_field : (xs : List ℕ) → has_fields [] false (fields_of xs) ≡ false
some_field [] = refl
some_field (x ∷ xs) = elim (x == 32) as (λ b. has_fields [] false (cond b ([] ∷ fields_of xs)
    (onto_first x (fields_of xs))) ≡ false) [
      | true ↦ refl
      | false ↦ grown x (fields_of xs)
    ]
  where
    grown : (x : ℕ) (fs : List (List ℕ)) → has_fields [] false (onto_first x fs) ≡ false
    grown x [] = refl
    grown x (f ∷ fs) = refl

-- The first field ends at the first space.
first_field : (rest : List ℕ) (n : ℕ) → n < length rest → ((k : ℕ) → k < n → get_or rest k 0 ≢ 32)
    → get_or rest n 0 ≡ 32 → fields_of rest ≡ take n rest ∷ fields_of (drop (suc n) rest)
first_field [] n l plain e = absurd (omega arith)
first_field (x ∷ xs) zero l plain e = fields_of-space x xs e
first_field (x ∷ xs) (suc n) l plain e =
    let rest = first_field xs n (omega arith) (λ k h. plain (suc k) (omega arith)) e in
    let head : x ≢ 32 = plain 0 (omega arith) in
    rw (fields_of-plain x xs head, rest) refl

-- With no space there is one field.
pub last_field : (rest : List ℕ) → ((k : ℕ) → k < length rest → get_or rest k 0 ≢ 32) → fields_of rest ≡ rest ∷ []
last_field [] plain = refl
last_field (x ∷ xs) plain =
    let rest = last_field xs (λ k h. plain (suc k) (omega arith)) in
    let head : x ≢ 32 = plain 0 (omega arith) in
    rw (fields_of-plain x xs head, rest) refl

-- The first field, and the bytes behind it.
pub next_field : (rest : List ℕ) (i : ℕ) → (i < length rest) × (get_or rest i 0 ≡ 32)
    × ((k : ℕ) → k < i → get_or rest k 0 ≢ 32)
    → fields_of rest ≡ take i rest ∷ fields_of (take (length rest - (i + 1)) (drop (i + 1) rest))
next_field rest i h =
    let n : length rest - (i + 1) ≡ length (drop (i + 1) rest) = omega (arith, length-drop {A = ℕ}) in
    rw (n, take-length (drop (i + 1) rest), add-one i) (first_field rest i h.0 h.2 h.1)

-- Graphic bytes are one field.
pub graphic_field : (bytes : List ℕ) → IsTrue (list_all is_graphic bytes) → fields_of bytes ≡ bytes ∷ []
graphic_field [] graphic = refl
graphic_field (x ∷ xs) graphic =
    let parts : IsTrue (is_graphic x) × IsTrue (list_all is_graphic xs) = grind (arith, nat_tests) in
    let plain : x ≢ 32 = grind (arith, nat_tests) in
    rw (fields_of-plain x xs plain, graphic_field xs parts.1) refl

-- There is always a first field.
first_of : (xs : List ℕ) → (f : List ℕ) × (fs : List (List ℕ)) × (fields_of xs ≡ f ∷ fs)
first_of [] = ([], [], refl)
first_of (x ∷ xs) = elim (cases_eq x 32) [
  | inl e ↦ ([], fields_of xs, fields_of-space x xs e)
  | inr n ↦ let first = first_of xs in (x ∷ first.0, first.1, rw (fields_of-plain x xs n, first.2) refl)
]

spaceless_parts : (x : ℕ) (xs : List ℕ) → IsTrue (is_spaceless (x ∷ xs)) → (x ≢ 32) × IsTrue (is_spaceless xs)
spaceless_parts x xs plain = grind (arith, nat_tests)

spaceless_at : (word : List ℕ) → IsTrue (is_spaceless word) → (k : ℕ) → k < length word → get_or word k 0 ≢ 32
spaceless_at [] plain k less = absurd (omega arith)
spaceless_at (x ∷ xs) plain zero less = (spaceless_parts x xs plain).0
spaceless_at (x ∷ xs) plain (suc k) less = spaceless_at xs (spaceless_parts x xs plain).1 k (omega arith)

-- A word that is a whole line is its field.
pub word_alone : (word bytes : List ℕ) → IsTrue (is_spaceless word) → take (length word) bytes ≡ word
    → length bytes ≡ length word → fields_of bytes ≡ word ∷ []
word_alone word bytes plain front whole =
    let same : bytes ≡ word = sym (take-length bytes) ∙ rw whole front in
    rw same (last_field word (spaceless_at word plain))

-- A word before a space is a field.
pub word_field : (word bytes : List ℕ) → IsTrue (is_spaceless word) → take (length word) bytes ≡ word
    → length word < length bytes → get_or bytes (length word) 0 ≡ 32
    → fields_of bytes
    ≡ word ∷ fields_of (take (length bytes - (length word + 1)) (drop (length word + 1) bytes))
word_field word bytes plain front less space =
    let at : (k : ℕ) → k < length word → get_or bytes k 0 ≢ 32 = λ k h.
    rw (← get_or-take (length word) bytes k 0 h, front) (spaceless_at word plain k h) in
    rw front at (next_field bytes (length word) (less, space, at))

unequal_rest : (x c : ℕ) (f cs : List ℕ) → bytes_eq f cs ≡ false → bytes_eq (x ∷ f) (c ∷ cs) ≡ false
unequal_rest x c f cs e = grind (arith, nat_tests)

unequal_first : (x c : ℕ) (f cs : List ℕ) → x ≢ c → bytes_eq (x ∷ f) (c ∷ cs) ≡ false
unequal_first x c f cs ne = grind (arith, nat_tests)

-- The first field is another one, if the word isn't at the front.
pub other_word : (word bytes : List ℕ) → IsTrue (is_spaceless word) → take (length word) bytes ≢ word
    → first_is word (fields_of bytes) ≡ false
other_word [] bytes plain other = absurd (other refl)
other_word (c ∷ cs) [] plain other = refl
other_word (c ∷ cs) (x ∷ xs) plain other = elim (cases_eq x 32) [
  | inl e ↦ rw (fields_of-space x xs e) refl
  | inr n ↦ elim (cases_eq x c) [
    | inl same ↦
        let first = first_of xs in
        let parts = spaceless_parts c cs plain in
        let rest : first_is cs (fields_of xs) ≡ false =
        other_word cs xs parts.1 (λ e. other (rw (same, e) refl)) in
        rw (fields_of-plain x xs n, first.2) (unequal_rest x c first.0 cs (rw first.2 at rest))
    | inr differ ↦
        let first = first_of xs in
        rw (fields_of-plain x xs n, first.2) (unequal_first x c first.0 cs differ)
  ]
]

-- The first field is longer, if another byte than a space follows the word.
pub longer_word : (word bytes : List ℕ) → IsTrue (is_spaceless word) → take (length word) bytes ≡ word
    → length word < length bytes → get_or bytes (length word) 0 ≢ 32 → first_is word (fields_of bytes) ≡ false
longer_word word [] plain front less ne = absurd (omega arith)
longer_word [] (x ∷ xs) plain front less ne =
    let first = first_of xs in
    let head : x ≢ 32 = ne in
    rw (fields_of-plain x xs head, first.2) refl
longer_word (c ∷ cs) (x ∷ xs) plain front less ne =
    let first = first_of xs in
    let parts = spaceless_parts c cs plain in
    let same : x ≡ c = cc in
    let front : take (length cs) xs ≡ cs = cc in
    let head : x ≢ 32 = rw same parts.0 in
    let rest = longer_word cs xs parts.1 front (omega arith) ne in
    rw (fields_of-plain x xs head, first.2) (unequal_rest x c first.0 cs (rw first.2 at rest))
