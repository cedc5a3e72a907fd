-- Steps through lists.
use Rattle.std.proofs.Common.{◌≡◌, ℕ, ◌+◌, ◌<◌, Bool, true, false, ◌||◌, ◌⊎◌, inl, inr, List, ◌∷◌, refl, ap, sym, ◌∙◌}
use Rattle.std.proofs.Common.{length, drop, get_or}
use Rattle.std.specs.List.{list_any}
use Rattle.std.proofs.lemmas.List.{drop_more}

-- From an index on, a list is its element there and the list from the next index on.
pub rest_from : {X : Type 0} (xs : List X) (i : ℕ) (x : X) → x ≡ get_or xs i x → i < length xs
    → drop i xs ≡ x ∷ drop (i + 1) xs
rest_from xs i x is lt = drop_more xs i x lt ∙ ap (λ y. y ∷ drop (i + 1) xs) (sym is)

-- One of the elements passes: the first, or one behind it.
further : {X : Type 0} (p : X → Bool) (xs rest : List X) (x : X) → xs ≡ x ∷ rest → list_any p xs ≡ true
    → (p x ≡ true) ⊎ (list_any p rest ≡ true)
further p xs rest x e any =
    elim (p x) as (λ b. p x ≡ b → (b ≡ true) ⊎ (list_any p rest ≡ true)) [
      | true ↦ λ t. inl refl
      | false ↦ λ f. inr (sym (ap (λ b. b || list_any p rest) f) ∙ sym (ap (list_any p) e) ∙ any)
    ] refl

-- One of the elements from an index on passes: the one there, or one behind it.
pub further_at : {X : Type 0} (p : X → Bool) (xs : List X) (i : ℕ) (x : X) → x ≡ get_or xs i x → i < length xs
    → list_any p (drop i xs) ≡ true → (p x ≡ true) ⊎ (list_any p (drop (i + 1) xs) ≡ true)
further_at p xs i x is lt any = further p (drop i xs) (drop (i + 1) xs) x (rest_from xs i x is lt) any
