-- Items of lists.
use Rattle.std.proofs.Common.{inl, inr, ◌≡◌, ◌⊎◌, ℕ, zero, suc, List, [], ◌∷◌, ◌++◌, Option, None, Some, refl, sym}
use Rattle.std.proofs.Common.{ap, ◌∙◌, slice_get}
use Rattle.std.specs.List.{cons_option, filter_map, flat_map}
use Rattle.std.specs.Option.{option_or}
use Rattle.sm_policy.specs.Violating.{first_some}
use Rattle.sm_violations.specs.Laws.{IsIn}

-- ---- lists

next : {A : Type 0} (x y : A) (xs : List A) → IsIn y xs → IsIn y (x ∷ xs)
next x y xs p = (suc p.0, p.1)

first : {A : Type 0} (x : A) (xs : List A) → IsIn x (x ∷ xs)
first x xs = (zero, refl)

in_append : {A : Type 0} (xs ys : List A) (y : A) → IsIn y (xs ++ ys) → IsIn y xs ⊎ IsIn y ys
in_append [] ys y h = inr h
in_append (x ∷ xs) ys y (zero, h) = inl (zero, h)
in_append (x ∷ xs) ys y (suc i, h) = elim (in_append xs ys y (i, h)) [ inl p ↦ inl (next x y xs p) | inr p ↦ inr p ]

in_left : {A : Type 0} (xs ys : List A) (y : A) → IsIn y xs → IsIn y (xs ++ ys)
in_left [] ys y (i, h) = absurd cc
in_left (x ∷ xs) ys y (zero, h) = (zero, h)
in_left (x ∷ xs) ys y (suc i, h) = next x y (xs ++ ys) (in_left xs ys y (i, h))

in_right : {A : Type 0} (xs ys : List A) (y : A) → IsIn y ys → IsIn y (xs ++ ys)
in_right [] ys y h = h
in_right (x ∷ xs) ys y h = next x y (xs ++ ys) (in_right xs ys y h)

pub in_flat : {A B : Type 0} (g : A → List B) (xs : List A) (y : B) → IsIn y (flat_map g xs)
    → (x : A) × IsIn x xs × IsIn y (g x)
in_flat g [] y (i, h) = absurd cc
in_flat g (x ∷ xs) y h = elim (in_append (g x) (flat_map g xs) y h) [
  | inl p ↦ (x, first x xs, p)
  | inr p ↦ (let r = in_flat g xs y p in (r.0, next x r.0 xs r.1, r.2))
]

pub to_flat : {A B : Type 0} (g : A → List B) (xs : List A) (x : A) (y : B) → IsIn x xs → IsIn y (g x)
    → IsIn y (flat_map g xs)
to_flat g [] x y (i, h) p = absurd cc
to_flat g (z ∷ xs) x y (zero, h) p = let is : z ≡ x = cc in in_left (g z) (flat_map g xs) y (rw is p)
to_flat g (z ∷ xs) x y (suc i, h) p = in_right (g z) (flat_map g xs) y (to_flat g xs x y (i, h) p)

pub in_filter : {A B : Type 0} (f : A → Option B) (xs : List A) (y : B) → IsIn y (filter_map f xs)
    → (x : A) × IsIn x xs × (f x ≡ Some y)
in_filter f [] y (i, h) = absurd cc
in_filter {A} {B} f (x ∷ xs) y h = by (λ p. let r = in_filter f xs y p in (r.0, next x r.0 xs r.1, r.2)) (f x) refl h
  where
    by : (IsIn y (filter_map f xs) → (z : A) × IsIn z (x ∷ xs) × (f z ≡ Some y)) → (o : Option B) → f x ≡ o
        → IsIn y (cons_option o (filter_map f xs)) → (z : A) × IsIn z (x ∷ xs) × (f z ≡ Some y)
    by rest None e g = rest g
    by rest (Some z) e (zero, g) = (x, first x xs, e ∙ g)
    by rest (Some z) e (suc i, g) = rest (i, g)

pub to_filter : {A B : Type 0} (f : A → Option B) (xs : List A) (x : A) (y : B) → IsIn x xs → f x ≡ Some y
    → IsIn y (filter_map f xs)
to_filter f [] x y (i, h) g = absurd cc
to_filter f (z ∷ xs) x y (zero, h) g = let is : z ≡ x = cc in rw (is, g) (first y (filter_map f xs))
to_filter {A} {B} f (z ∷ xs) x y (suc i, h) g = behind (f z) (to_filter f xs x y (i, h) g) where
  behind : (o : Option B) → IsIn y (filter_map f xs) → IsIn y (cons_option o (filter_map f xs))
  behind None p = p
  behind (Some w) p = next w y (filter_map f xs) p

-- ---- the first that is given

pub some_of : {A B : Type 0} (f : A → Option B) (xs : List A) (y : B) → first_some f xs ≡ Some y
    → (x : A) × IsIn x xs × (f x ≡ Some y)
some_of f [] y h = absurd cc
some_of {A} {B} f (x ∷ xs) y h = by (λ g. let r = some_of f xs y g in (r.0, next x r.0 xs r.1, r.2)) (f x) refl h
  where
    by : (first_some f xs ≡ Some y → (z : A) × IsIn z (x ∷ xs) × (f z ≡ Some y)) → (o : Option B) → f x ≡ o
        → option_or o (first_some f xs) ≡ Some y → (z : A) × IsIn z (x ∷ xs) × (f z ≡ Some y)
    by rest None e g = rest g
    by rest (Some z) e g = (x, first x xs, e ∙ g)

pub none_of : {A B : Type 0} (f : A → Option B) (xs : List A) (x : A) → first_some f xs ≡ None → IsIn x xs → f x ≡ None
none_of f [] x h (i, g) = absurd cc
none_of {A} {B} f (z ∷ xs) x h p = by (λ g q. none_of f xs x g q) (f z) refl h p where
  by : (first_some f xs ≡ None → IsIn x xs → f x ≡ None) → (o : Option B) → f z ≡ o
      → option_or o (first_some f xs) ≡ None → IsIn x (z ∷ xs) → f x ≡ None
  by rest (Some w) e g q = absurd cc
  by rest None e g (zero, q) = let is : z ≡ x = cc in rw (← is) e
  by rest None e g (suc i, q) = rest g (i, q)

-- The first item of the lists of all is that of the first one that has some.
pub head_of_flat : {A B : Type 0} (f : A → Option B) (g : A → List B) (xs : List A)
    → ((x : A) → slice_get (g x) 0 ≡ f x) → slice_get (flat_map g xs) 0 ≡ first_some f xs
head_of_flat f g [] heads = refl
head_of_flat {A} {B} f g (x ∷ xs) heads = by (g x) refl (head_of_flat f g xs heads) where
  by : (l : List B) → g x ≡ l → slice_get (flat_map g xs) 0 ≡ first_some f xs
      → slice_get (l ++ flat_map g xs) 0 ≡ option_or (f x) (first_some f xs)
  by [] e rest = let none : f x ≡ None = sym (heads x) ∙ ap (λ k. slice_get k 0) e in rw none rest
  by (y ∷ l) e rest = let some : f x ≡ Some y = sym (heads x) ∙ ap (λ k. slice_get k 0) e in rw some refl

pub head_of_filter : {A B : Type 0} (f : A → Option B) (xs : List A) → slice_get (filter_map f xs) 0 ≡ first_some f xs
head_of_filter f [] = refl
head_of_filter {A} {B} f (x ∷ xs) = by (f x) (head_of_filter f xs) where
  by : (o : Option B) → slice_get (filter_map f xs) 0 ≡ first_some f xs
      → slice_get (cons_option o (filter_map f xs)) 0 ≡ option_or o (first_some f xs)
  by None rest = rest
  by (Some y) rest = refl
