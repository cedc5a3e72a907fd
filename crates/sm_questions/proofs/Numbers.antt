-- The types that are asked for, by their numbers.
use Rattle.std.proofs.Common.{◌≡◌, ◌∙◌, ℕ, ◌+◌, cond, ◌<◌, ◌≤◌, Bool, true, false, List, [], ◌∷◌, ◌++◌, length, take}
use Rattle.std.proofs.Common.{map}
use Rattle.std.proofs.Common.{refl, sym, ap, arith, get_or}
use Rattle.std.specs.Prelude.{if◌then◌else◌, All, Option}
use Rattle.std.specs.List.{filter, flat_map}
use Rattle.std.proofs.lemmas.List.{append-nil, map-append, take_all}
use Rattle.std.proofs.lemmas.List.Elements.{All-push, filter_more}
use Rattle.std.proofs.lemmas.List.Folds.{flat_map-map}
use Rattle.sm_types.specs.Names.{Name, at}
use Rattle.sm_questions.specs.Accesses.{is_left}
use Rattle.sm_questions.specs.FirstLines.{AreAsked}

flat_one : {A : Type 0} (b : Bool) (x : A) (f : A → List ℕ) (rest : List ℕ) (zs : List A) → rest ≡ flat_map f zs
    → (if b then f x else []) ++ rest ≡ flat_map f (cond b (x ∷ zs) zs)
flat_one true x f rest zs e = ap (λ l. f x ++ l) e
flat_one false x f rest zs e = e

-- Lines that only some have are the lines of those.
flat_map-filter : {A : Type 0} (p : A → Bool) (f : A → List ℕ) (xs : List A)
    → flat_map (λ x. if p x then f x else []) xs ≡ flat_map f (filter p xs)
flat_map-filter p f [] = refl
flat_map-filter p f (x ∷ xs) = flat_one (p x) x f _ (filter p xs) (flat_map-filter p f xs)

-- These are the numbers of the types that are asked for among the first ones.
pub record AreFirst (names : List Name) (wanted : Option (List ℕ)) (k : ℕ) (numbers : List ℕ) : Type 0 where
  pub inside : All (λ i. i < length names) numbers
  pub picked : map (at names) numbers ≡ filter (is_left wanted) (take k names)

one_kept : {A : Type 0} (b : Bool) (x : A) → b ≡ true → cond b (x ∷ []) [] ≡ x ∷ []
one_kept b x e = rw e refl

-- The next type is asked for.
pub with_next : (names : List Name) (wanted : Option (List ℕ)) (k : ℕ) (numbers : List ℕ) → k < length names
    → is_left wanted (at names k) ≡ true → AreFirst names wanted k numbers
    → AreFirst names wanted (k + 1) (numbers ++ k ∷ [])
with_next names wanted k numbers lt asked so_far =
    let p = is_left wanted in
    record {
      inside = All-push (λ i. i < length names) numbers k so_far.inside lt;
      picked = map-append (at names) numbers (k ∷ []) ∙ ap (λ l. l ++ at names k ∷ []) so_far.picked
          ∙ sym (filter_more p names k [] lt
          ∙ ap (λ l. filter p (take k names) ++ l) (one_kept (p (at names k)) (at names k) asked));
    }

-- The next type isn't.
pub without_next : (names : List Name) (wanted : Option (List ℕ)) (k : ℕ) (numbers : List ℕ) → k < length names
    → is_left wanted (at names k) ≡ false → AreFirst names wanted k numbers → AreFirst names wanted (k + 1) numbers
without_next names wanted k numbers lt other so_far =
    let p = is_left wanted in
    record {
      inside = so_far.inside;
      picked = so_far.picked ∙ sym (filter_more p names k [] lt
          ∙ rw other (append-nil (filter p (take k names))));
    }

pub all_first : (names : List Name) (wanted : Option (List ℕ)) (k : ℕ) (numbers : List ℕ) → length names ≤ k
    → AreFirst names wanted k numbers → AreAsked names wanted numbers
all_first names wanted k numbers le first = record {
  inside = first.inside;
  picked = first.picked ∙ ap (filter (is_left wanted)) (take_all k names le);
}

-- These are the lines of the type of a number.
abbrev pub numbered : List Name → (Name → List ℕ) → ℕ → List ℕ
numbered names f i = f (at names i)

-- The lines of the numbers are those of the types that are asked for.
pub numbered_lines : (names : List Name) (wanted : Option (List ℕ)) (f : Name → List ℕ) (numbers : List ℕ)
    → AreAsked names wanted numbers
    → flat_map (numbered names f) numbers ≡ flat_map (λ t. if is_left wanted t then f t else []) names
numbered_lines names wanted f numbers are = sym (flat_map-map f (at names) numbers) ∙ ap (flat_map f) are.picked
    ∙ sym (flat_map-filter (is_left wanted) f names)

-- A single number has the lines of all types that are asked for.
pub one_number : (names : List Name) (wanted : Option (List ℕ)) (f : Name → List ℕ) (numbers : List ℕ)
    → AreAsked names wanted numbers → length numbers ≡ 1
    → f (at names (get_or numbers 0 0)) ≡ flat_map (λ t. if is_left wanted t then f t else []) names
one_number names wanted f [] are one = absurd (omega (arith, one))
one_number names wanted f (n ∷ []) are one = sym (append-nil (f (at names n)))
    ∙ numbered_lines names wanted f (n ∷ []) are
one_number names wanted f (n ∷ (m ∷ more)) are one = absurd (omega (arith, one))
