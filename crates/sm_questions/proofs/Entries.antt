-- The entry that labels a name.
use Rattle.std.proofs.Common.{◌≡◌, ℕ, Bool, List, [], ◌∷◌, Option, Some, None, is_some, refl, sym, ◌∙◌, arith}
use Rattle.std.specs.Prelude.{find, position, slice_get}
use Rattle.std.specs.Option.{option_or}
use Rattle.std.proofs.lemmas.Grind.{common_steps}
use Rattle.sm_contexts.specs.Reading.{Entry, has_key, default_key, or_default, label_place}

-- What is found is at the place that is found.
placed : {A : Type 0} (p : A → Bool) (xs : List A) (i : ℕ) → position p xs ≡ Some i → find p xs ≡ slice_get xs i
placed p [] i h = absurd cc
placed p (x ∷ xs) i h = grind (arith, common_steps, placed p xs)

-- Something is found if its place is.
is_some-both : {A : Type 0} (p : A → Bool) (xs : List A) → is_some (find p xs) ≡ is_some (position p xs)
is_some-both p [] = refl
is_some-both p (x ∷ xs) = grind (arith, common_steps, is_some-both p xs)

-- The entry of a name is at the place of its label.
pub entry_at : (entries : List Entry) (name : List ℕ) (i : ℕ) → label_place entries name ≡ Some i
    → or_default entries (find (has_key name) entries) ≡ slice_get entries i
entry_at entries name i place =
    by (position (has_key name) entries) (find (has_key name) entries) (is_some-both (has_key name) entries) refl refl
    place
  where
    by : (o : Option ℕ) (f : Option Entry) → is_some f ≡ is_some o → position (has_key name) entries ≡ o
        → find (has_key name) entries ≡ f → option_or o (position (has_key default_key) entries) ≡ Some i
        → or_default entries f ≡ slice_get entries i
    by None None e p q h = placed (has_key default_key) entries i h
    by None (Some x) e p q h = absurd cc
    by (Some j) None e p q h = absurd cc
    by (Some j) (Some x) e p q h = sym q ∙ placed (has_key name) entries i (p ∙ h)
