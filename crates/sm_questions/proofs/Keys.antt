-- The keys of entries.
use Rattle.std.proofs.Common.{◌≡◌, ℕ, List, [], ◌∷◌, map, refl, arith, Option}
use Rattle.std.specs.Prelude.{option_map, slice_get, unwrap_or}
use Rattle.std.proofs.lemmas.Option.{slice_get-map, unwrap_or-slice_get}
use Rattle.sm_types.specs.Names.{at}
use Rattle.std.specs.List.{list_any}
use Rattle.std.specs.Str.{bytes_eq}
use Rattle.std.proofs.lemmas.Slice.Eq.{bytes_eq-Decides}
use Rattle.sm_values.specs.Names.{contains}
use Rattle.sm_contexts.specs.Reading.{Entry, has_key}

either_way : (a b : List ℕ) → bytes_eq a b ≡ bytes_eq b a
either_way a b = grind (arith, bytes_eq-Decides a b, bytes_eq-Decides b a)

-- A key is among the keys if it has an entry.
pub any_key : (entries : List Entry) (key : List ℕ)
    → list_any (has_key key) entries ≡ contains (map (λ e. e.key) entries) key
any_key [] key = refl
any_key (e ∷ entries) key = grind (arith, any_key entries key, either_way e.key key)

-- The key of an index.
pub key_at : (entries : List Entry) (i : ℕ) (key : Option (List ℕ))
    → key ≡ option_map (λ e. e.key) (slice_get entries i) → unwrap_or key [] ≡ at (map (λ e. e.key) entries) i
key_at entries i key e =
    rw (e, ← slice_get-map (λ (e : Entry). e.key) entries i) (unwrap_or-slice_get (map (λ e. e.key) entries) i [])
