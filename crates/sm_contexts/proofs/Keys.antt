-- What the table of the keys finds is what the list of the entries has.
use Rattle.std.proofs.Common.{◌≡◌, ℕ, ◌+◌, Bool, true, false, ◌||◌, cond, List, [], ◌∷◌, ◌++◌, map, Option, None}
use Rattle.std.proofs.Common.{Some, Ok}
use Rattle.std.proofs.Common.{is_some, refl, sym, ap, ◌∙◌}
use Rattle.std.specs.Prelude.{find, not, option_map, option_copied, position}
use Rattle.std.specs.List.{list_any, position_or_len}
use Rattle.std.specs.Str.{bytes_eq}
use Rattle.std.specs.Map.{keys_of, lookup}
use Rattle.indexmap.specs.IndexMap.{insert_entry}
use Rattle.std.specs.Global.{Vec}
use Rattle.std.specs.Borrow.{Bor}
use Rattle.std.proofs.lemmas.List.{length-map}
use Rattle.std.proofs.lemmas.Slice.Eq.{bytes_eq-Decides}
use Rattle.sm_contexts.specs.declared.entries.FirstLine.{FirstLine}
use Rattle.sm_contexts.specs.Reading.{Entry, has_key, with_entry}
use Rattle.sm_contexts.specs.Keyed.{entry, entry_of}

abbrev pub holds : List ℕ → Vec ℕ → Bool
holds key k = bytes_eq key k.items

seen_entry : (key : List ℕ) (r : Option (Bor FirstLine))
    → option_map (λ f. entry key f.now) r ≡ option_map (entry key) (option_copied r)
seen_entry key None = refl
seen_entry key (Some f) = refl

-- The table's look-up gives the first entry with the key.
find_lookup : (key : List ℕ) (es : List (Vec ℕ × FirstLine))
    → option_map (entry key) (lookup (holds key) es) ≡ find (has_key key) (map entry_of es)
find_lookup key [] = refl
find_lookup key (e ∷ es) = by (bytes_eq key e.0.items) refl (find_lookup key es) where
  by : (b : Bool) → bytes_eq key e.0.items ≡ b
      → option_map (entry key) (lookup (holds key) es) ≡ find (has_key key) (map entry_of es)
      → option_map (entry key) (cond b (Some e.1) (lookup (holds key) es))
      ≡ cond b (Some (entry_of e)) (find (has_key key) (map entry_of es))
  by true h rest = ap (λ k. Some (entry k e.1)) ((bytes_eq-Decides key e.0.items).0 h)
  by false h rest = rest

pub found_entry : (key : List ℕ) (es : List (Vec ℕ × FirstLine)) (r : Option (Bor FirstLine))
    → option_copied r ≡ lookup (holds key) es
    → option_map (λ f. entry key f.now) r ≡ find (has_key key) (map entry_of es)
found_entry key es r e = seen_entry key r ∙ (ap (option_map (entry key)) e ∙ find_lookup key es)

-- It finds one exactly where there is one.
pub any_lookup : (key : List ℕ) (es : List (Vec ℕ × FirstLine))
    → is_some (lookup (holds key) es) ≡ list_any (has_key key) (map entry_of es)
any_lookup key [] = refl
any_lookup key (e ∷ es) = by (bytes_eq key e.0.items) (any_lookup key es) where
  by : (b : Bool) → is_some (lookup (holds key) es) ≡ list_any (has_key key) (map entry_of es)
      → is_some (cond b (Some e.1) (lookup (holds key) es)) ≡ (b || list_any (has_key key) (map entry_of es))
  by true rest = refl
  by false rest = rest

-- The entry is at the same index.
place_same : (key : List ℕ) (es : List (Vec ℕ × FirstLine))
    → position_or_len (holds key) (keys_of es) ≡ position_or_len (has_key key) (map entry_of es)
place_same key [] = refl
place_same key (e ∷ es) = ap (λ n. cond (not (bytes_eq key e.0.items)) (1 + n) 0) (place_same key es)

pub placed : (key : List ℕ) (es : List (Vec ℕ × FirstLine))
    → position (holds key) (keys_of es) ≡ position (has_key key) (map entry_of es)
placed key es = rw (place_same key es, length-map es entry_of, length-map es (λ e. e.0)) refl

abbrev same : Vec ℕ → Vec ℕ → Bool
same x y = bytes_eq x.items y.items

-- A new key goes last.
inserted_last : (key : Vec ℕ) (first : FirstLine) (es : List (Vec ℕ × FirstLine))
    → find (has_key key.items) (map entry_of es) ≡ None
    → map entry_of (insert_entry same es key first) ≡ map entry_of es ++ entry key.items first ∷ []
inserted_last key first [] none = refl
inserted_last key first (e ∷ es) none = by (bytes_eq key.items e.0.items) none (inserted_last key first es) where
  by : (b : Bool) → cond b (Some (entry_of e)) (find (has_key key.items) (map entry_of es)) ≡ None
      → (find (has_key key.items) (map entry_of es) ≡ None
      → map entry_of (insert_entry same es key first) ≡ map entry_of es ++ entry key.items first ∷ [])
      → map entry_of (cond b ((e.0, first) ∷ es) (e ∷ insert_entry same es key first)) ≡ entry_of e
      ∷ (map entry_of es ++ entry key.items first ∷ [])
  by true h rest = absurd cc
  by false h rest = ap (λ (r : List Entry). entry_of e ∷ r) (rest h)

pub placed_last : (line : ℕ) (key : List ℕ) (context : List ℕ) (stored : Vec ℕ) (old : List Entry)
    (es new : List (Vec ℕ × FirstLine))
    → None ≡ find (has_key key) old → stored.items ≡ key → map entry_of es ≡ old
    → new ≡ insert_entry same es stored (record { line = line; context = context })
    → with_entry line old key context ≡ Ok (map entry_of new)
unfolding with_entry
placed_last line key context stored old es new none copied seen inserted =
    let absent : find (has_key stored.items) (map entry_of es) ≡ None = rw (copied, seen) (sym none) in
    let last = inserted_last stored (record { line = line; context = context }) es absent in
    rw (← none, inserted, last, copied, seen) refl
