-- Lines that are counted one after the other have their numbers in the whole list.
use Rattle.std.proofs.Common.{◌≡◌, ℕ, ◌+◌, Bool, true, false, not, ◌||◌, cond, List, [], ◌∷◌, ◌++◌, map, filter}
use Rattle.std.proofs.Common.{refl, sym, ap, ◌∙◌, append_assoc, true≢false, arith}
use Rattle.std.specs.Prelude.{count_by}
use Rattle.std.specs.List.{list_any}
use Rattle.std.specs.Str.{bytes_eq}
use Rattle.std.proofs.lemmas.Bool.{or_parts}
use Rattle.std.proofs.lemmas.Slice.Eq.{bytes_eq-Decides}
use Rattle.std.proofs.lemmas.List.{append-nil}
use Rattle.std.proofs.lemmas.List.Elements.{filter-append}
use Rattle.sm_suggestions.proofs.Counts.{count_cons}
use Rattle.sm_suggestions.specs.Tallying.{Count, count_in, counted, counted_all, counts, firsts}

-- ---- each line once

-- The other one is another line.
abbrev differs : List ℕ → List ℕ → Bool
differs line other = not (bytes_eq line other)

equal : (a b : List ℕ) → bytes_eq a b ≡ true → a ≡ b
equal a b h = (bytes_eq-Decides a b).0 h

swapped : (a b : List ℕ) → bytes_eq a b ≡ bytes_eq b a
swapped a b = grind (arith, bytes_eq-Decides a b, bytes_eq-Decides b a)

-- No line is there twice.
abbrev AreApart : List (List ℕ) → Type 0
AreApart [] = Unit {0}
AreApart (line ∷ lines) = (list_any (bytes_eq line) lines ≡ false) × AreApart lines

none_left : (line : List ℕ) (lines : List (List ℕ)) → list_any (bytes_eq line) (filter (differs line) lines) ≡ false
none_left line [] = refl
none_left line (x ∷ lines) = by (bytes_eq line x) refl (none_left line lines) where
  by : (b : Bool) → bytes_eq line x ≡ b → list_any (bytes_eq line) (filter (differs line) lines) ≡ false
      → list_any (bytes_eq line) (cond (not b) (x ∷ filter (differs line) lines) (filter (differs line) lines)) ≡ false
  by true e rest = rest
  by false e rest = rw (e, rest) refl

fewer : (p q : List ℕ → Bool) (lines : List (List ℕ)) → list_any p lines ≡ false → list_any p (filter q lines) ≡ false
fewer p q [] none = refl
fewer p q (x ∷ lines) none =
    let parts = or_parts (p x) (list_any p lines) none in
    by (q x) parts.0 (fewer p q lines parts.1) where
      by : (b : Bool) → p x ≡ false → list_any p (filter q lines) ≡ false
          → list_any p (cond b (x ∷ filter q lines) (filter q lines)) ≡ false
      by true h rest = rw (h, rest) refl
      by false h rest = rest

apart_left : (q : List ℕ → Bool) (lines : List (List ℕ)) → AreApart lines → AreApart (filter q lines)
apart_left q [] apart = tt
apart_left q (x ∷ lines) apart =
    by (q x) (fewer (bytes_eq x) q lines apart.0) (apart_left q lines apart.1) where
      by : (b : Bool) → list_any (bytes_eq x) (filter q lines) ≡ false → AreApart (filter q lines)
          → AreApart (cond b (x ∷ filter q lines) (filter q lines))
      by true none rest = (none, rest)
      by false none rest = rest

firsts_apart : (lines : List (List ℕ)) → AreApart (firsts lines)
unfolding firsts
firsts_apart [] = tt
firsts_apart (line ∷ lines) =
    (none_left line (firsts lines), apart_left (differs line) (firsts lines) (firsts_apart lines))

still_there : (line other : List ℕ) (lines : List (List ℕ)) → bytes_eq line other ≡ false
    → list_any (bytes_eq line) (filter (differs other) lines) ≡ list_any (bytes_eq line) lines
still_there line other [] apart = refl
still_there line other (x ∷ lines) apart =
    by (bytes_eq other x) (bytes_eq line x) refl refl (still_there line other lines apart) where
      by : (b c : Bool) → bytes_eq other x ≡ b → bytes_eq line x ≡ c
          → list_any (bytes_eq line) (filter (differs other) lines) ≡ list_any (bytes_eq line) lines
          → list_any (bytes_eq line) (cond (not b) (x ∷ filter (differs other) lines) (filter (differs other) lines))
          ≡ (c || list_any (bytes_eq line) lines)
      by true true e f rest = absurd (true≢false (sym ((bytes_eq-Decides line other).1 (equal line x f
          ∙ sym (equal other x e))) ∙ apart))
      by true false e f rest = rest
      by false c e f rest = rw (f, rest) refl

first_there : (line : List ℕ) (lines : List (List ℕ))
    → list_any (bytes_eq line) (firsts lines) ≡ list_any (bytes_eq line) lines
unfolding firsts
first_there line [] = refl
first_there line (x ∷ lines) = by (bytes_eq line x) refl (first_there line lines) where
  by : (b : Bool) → bytes_eq line x ≡ b
      → list_any (bytes_eq line) (firsts lines) ≡ list_any (bytes_eq line) lines
      → (b || list_any (bytes_eq line) (filter (differs x) (firsts lines))) ≡ (b || list_any (bytes_eq line) lines)
  by true e rest = refl
  by false e rest = still_there line x (firsts lines) e ∙ rest

-- One more line is behind the others, if it wasn't there before.
firsts_more : (lines : List (List ℕ)) (line : List ℕ) → firsts (lines ++ line ∷ [])
    ≡ cond (list_any (bytes_eq line) lines) (firsts lines) (firsts lines ++ line ∷ [])
unfolding firsts
firsts_more [] line = refl
firsts_more (x ∷ lines) line =
    by (bytes_eq line x) (list_any (bytes_eq line) lines) refl (firsts_more lines line) where
      by : (b c : Bool) → bytes_eq line x ≡ b
          → firsts (lines ++ line ∷ []) ≡ cond c (firsts lines) (firsts lines ++ line ∷ [])
          → x ∷ filter (differs x) (firsts (lines ++ line ∷ []))
          ≡ cond (b || c) (x ∷ filter (differs x) (firsts lines))
          (x ∷ filter (differs x) (firsts lines) ++ line ∷ [])
      by true true e rest = rw rest refl
      by false true e rest = rw rest refl
      by true false e rest =
          let same : bytes_eq x line ≡ true = swapped x line ∙ e in
          rw (
            rest,
            filter-append (differs x) (firsts lines) (line ∷ []),
            same,
            append-nil (filter (differs x) (firsts lines)),
          ) refl
      by false false e rest =
          let apart : bytes_eq x line ≡ false = swapped x line ∙ e in
          rw (rest, filter-append (differs x) (firsts lines) (line ∷ []), apart) refl

-- ---- their numbers

-- These are lines, each with the number that a function gives.
abbrev numbered : (List ℕ → ℕ) → List (List ℕ) → List Count
numbered f lines = map (λ line. record { line = line; times = f line }) lines

-- One more of a line, and as many of the others.
record IsOneMore (line : List ℕ) (f g : List ℕ → ℕ) : Type 0 where
  more : g line ≡ f line + 1
  others : (x : List ℕ) → bytes_eq line x ≡ false → g x ≡ f x

unnamed : (line : List ℕ) (f g : List ℕ → ℕ) (lines : List (List ℕ)) → IsOneMore line f g
    → list_any (bytes_eq line) lines ≡ false → numbered f lines ≡ numbered g lines
unnamed line f g [] is none = refl
unnamed line f g (x ∷ lines) is none =
    let parts = or_parts (bytes_eq line x) (list_any (bytes_eq line) lines) none in
    rw (is.others x parts.0, unnamed line f g lines is parts.1) refl

bumped : (line : List ℕ) (f g : List ℕ → ℕ) (lines : List (List ℕ)) → IsOneMore line f g → AreApart lines
    → list_any (bytes_eq line) lines ≡ true → counted (numbered f lines) line ≡ numbered g lines
bumped line f g [] is apart some = absurd (true≢false (sym some))
bumped line f g (x ∷ lines) is apart some =
    by (bytes_eq line x) refl some (bumped line f g lines is apart.1) where
      by : (b : Bool) → bytes_eq line x ≡ b → (b || list_any (bytes_eq line) lines) ≡ true
          → (list_any (bytes_eq line) lines ≡ true → counted (numbered f lines) line ≡ numbered g lines)
          → cond b (record { line = x; times = f x + 1 } ∷ numbered f lines)
          (record { line = x; times = f x } ∷ counted (numbered f lines) line)
          ≡ numbered g (x ∷ lines)
      by true e h rest =
          let same : line ≡ x = equal line x e in
          let none : list_any (bytes_eq line) lines ≡ false = rw same apart.0 in
          rw (← same, ← is.more, unnamed line f g lines is none) refl
      by false e h rest = rw (is.others x e, rest h) refl

added : (line : List ℕ) (f g : List ℕ → ℕ) (lines : List (List ℕ)) → IsOneMore line f g → f line ≡ 0
    → list_any (bytes_eq line) lines ≡ false
    → counted (numbered f lines) line ≡ numbered g (lines ++ line ∷ [])
added line f g [] is zero none = let one : g line ≡ 1 = omega (arith, is.more, zero) in rw one refl
added line f g (x ∷ lines) is zero none =
    let parts = or_parts (bytes_eq line x) (list_any (bytes_eq line) lines) none in
    rw (parts.0, is.others x parts.0, added line f g lines is zero parts.1) refl

count_append : (p : List ℕ → Bool) (xs : List (List ℕ)) (y : List ℕ)
    → count_by p (xs ++ y ∷ []) ≡ count_by p xs + cond (p y) 1 0
count_append p [] y = let one : count_by p (y ∷ []) ≡ cond (p y) 1 0 = count_cons p y [] in omega (arith, one)
count_append p (x ∷ xs) y =
    rw (count_cons p x (xs ++ y ∷ []), count_cons p x xs) (by (p x) (count_append p xs y)) where
      by : (b : Bool) → count_by p (xs ++ y ∷ []) ≡ count_by p xs + cond (p y) 1 0
          → cond b (1 + count_by p (xs ++ y ∷ [])) (count_by p (xs ++ y ∷ []))
          ≡ cond b (1 + count_by p xs) (count_by p xs) + cond (p y) 1 0
      by true rest = omega (arith, rest)
      by false rest = rest

one_more : (lines : List (List ℕ)) (line : List ℕ)
    → IsOneMore line (λ x. count_by (bytes_eq x) lines) (λ x. count_by (bytes_eq x) (lines ++ line ∷ []))
one_more lines line = record {
  more = count_append (bytes_eq line) lines line ∙ rw ((bytes_eq-Decides line line).1 refl) refl;
  others = λ x h. (let apart : bytes_eq x line ≡ false = swapped x line ∙ h in
      count_append (bytes_eq x) lines line ∙ rw apart (omega arith));
}

none_counted : (p : List ℕ → Bool) (xs : List (List ℕ)) → list_any p xs ≡ false → count_by p xs ≡ 0
none_counted p [] none = refl
none_counted p (x ∷ xs) none =
    let parts = or_parts (p x) (list_any p xs) none in
    rw (count_cons p x xs, parts.0) (none_counted p xs parts.1)

-- One more line is counted.
counts_more : (lines : List (List ℕ)) (line : List ℕ) → counted (counts lines) line ≡ counts (lines ++ line ∷ [])
unfolding counts
counts_more lines line = by (list_any (bytes_eq line) lines) refl (firsts_more lines line) where
  f : List ℕ → ℕ
  f x = count_by (bytes_eq x) lines

  by : (b : Bool) → list_any (bytes_eq line) lines ≡ b
      → firsts (lines ++ line ∷ []) ≡ cond b (firsts lines) (firsts lines ++ line ∷ [])
      → counted (map (count_in lines) (firsts lines)) line
      ≡ map (count_in (lines ++ line ∷ [])) (firsts (lines ++ line ∷ []))
  by true e same = rw same (bumped line _ _ (firsts lines) (one_more lines line) (firsts_apart lines)
      (first_there line lines ∙ e))
  by false e same = rw same (added line _ _ (firsts lines) (one_more lines line)
      (none_counted (bytes_eq line) lines e) (first_there line lines ∙ e))

all_counted : (before lines : List (List ℕ)) → counted_all (counts before) lines ≡ counts (before ++ lines)
all_counted before [] = ap counts (sym (append-nil before))
all_counted before (line ∷ lines) =
    ap (λ (cs : List Count). counted_all cs lines) (counts_more before line)
    ∙ (all_counted (before ++ line ∷ []) lines ∙ ap counts (append_assoc before (line ∷ []) lines))

-- Lines that are counted one after the other have their numbers.
pub counts_are : (lines : List (List ℕ)) → counted_all [] lines ≡ counts lines
unfolding counts firsts
counts_are lines = all_counted [] lines
