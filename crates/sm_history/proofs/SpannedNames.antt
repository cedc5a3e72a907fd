-- A list of names grows without changing the names that it has, and its bytes say whether they are valid.
use Rattle.std.proofs.Common.{◌≡◌, ℕ, ◌+◌, ◌≤◌, ◌&&◌, nat_eq, Bool, List, [], ◌∷◌, ◌++◌, refl, ap, sym, subst, ◌∙◌}
use Rattle.std.proofs.Common.{length, take, drop, map, arith, length-drop, append-nil}
use Rattle.std.proofs.lemmas.Bool.Decides.{nat_tests}
use Rattle.std.proofs.lemmas.List.{take-append-le, drop-append-le, take_all, map-append, length-map}
use Rattle.std.proofs.lemmas.List.{length-append}
use Rattle.std.proofs.lemmas.List.Elements.{All-drop, filter-append}
use Rattle.std.proofs.lemmas.List.Folds.{list_all-append}
use Rattle.std.proofs.lemmas.List.Sums.{length-filter}
use Rattle.std.proofs.lemmas.Grind.{common_steps, flat_map-append}
use Rattle.std.proofs.Math.Seq.{drop-append_seam}
use Rattle.std.specs.List.{All, count_by, filter, flat_map, list_all}
use Rattle.sm_history.specs.declared.name_list.Span.{Span}
use Rattle.sm_values.specs.Names.{is_name_byte, is_valid_name}
use Rattle.sm_history.specs.NameLists.{bytes_at, has_length, is_space, is_spaced_byte, spaced, IsWithin, AreKept}

-- More bytes behind them don't change those of a span.
bytes_stay : (b more : List ℕ) (s : Span) → IsWithin b s → bytes_at (b ++ more) s ≡ bytes_at b s
bytes_stay b more s within =
    let start : s.start ≤ length b = omega (arith, within) in
    let size = length-drop s.start b in
    let fits : s.len ≤ length (drop s.start b) = omega (arith, within, size) in
    ap (take s.len) (drop-append-le s.start b more start) ∙ take-append-le s.len (drop s.start b) more fits

names_stay : (b more : List ℕ) (ss : List Span) → All (IsWithin b) ss
    → map (bytes_at (b ++ more)) ss ≡ map (bytes_at b) ss
names_stay b more [] all = refl
names_stay b more (s ∷ ss) all =
    let here : IsWithin b s = all 0 s (omega arith) in
    rw (bytes_stay b more s here, names_stay b more ss (All-drop (IsWithin b) 1 (s ∷ ss) all)) refl

-- A name whose bytes are behind the others and a space.
name_behind : (b name : List ℕ) (s : Span) → s.start ≡ length (b ++ 32 ∷ []) → s.len ≡ length name
    → bytes_at ((b ++ 32 ∷ []) ++ name) s ≡ name
name_behind b name s start len =
    rw (start, len)
    (ap (take (length name)) (drop-append_seam (b ++ 32 ∷ []) name) ∙ take_all (length name) name (omega arith))

spaces_stay : (b name : List ℕ) → (b ++ 32 ∷ []) ++ name ≡ b ++ spaced name
spaces_stay [] name = refl
spaces_stay (x ∷ b) name = ap (λ l. x ∷ l) (spaces_stay b name)

pub name_pushed : (b name : List ℕ) (ss : List Span) (s : Span) → All (IsWithin b) ss
    → s.start ≡ length (b ++ 32 ∷ []) → s.len ≡ length name
    → map (bytes_at ((b ++ 32 ∷ []) ++ name)) (ss ++ s ∷ []) ≡ map (bytes_at b) ss ++ name ∷ []
name_pushed b name ss s all start len =
    let here = name_behind b name s start len in
    let stay : map (bytes_at ((b ++ 32 ∷ []) ++ name)) ss ≡ map (bytes_at b) ss =
    rw (spaces_stay b name) (names_stay b (spaced name) ss all) in
    map-append (bytes_at ((b ++ 32 ∷ []) ++ name)) ss (s ∷ []) ∙ rw (stay, here) refl

within_pushed : (b name : List ℕ) (ss : List Span) (s : Span) → All (IsWithin b) ss
    → s.start ≡ length (b ++ 32 ∷ []) → s.len ≡ length name
    → All (IsWithin ((b ++ 32 ∷ []) ++ name)) (ss ++ s ∷ [])
within_pushed b name ss s all start len = grind (arith, common_steps)

pub kept_pushed : (b name : List ℕ) (ss : List Span) (s : Span) (p : _) → AreKept b ss p
    → s.start ≡ length (b ++ 32 ∷ []) → s.len ≡ length name
    → AreKept ((b ++ 32 ∷ []) ++ name) (ss ++ s ∷ []) (p && has_length name)
kept_pushed b name ss s p kept start len =
    let pushed = name_pushed b name ss s kept.within start len in
    record {
      within = within_pushed b name ss s kept.within start len;
      packed = rw (pushed, flat_map-append spaced (map (bytes_at b) ss) (name ∷ []), kept.packed)
          (ap (λ l. b ++ l) (append-nil (spaced name)) ∙ rw (spaces_stay b name) refl);
      plain = rw (pushed, list_all-append has_length (map (bytes_at b) ss) (name ∷ []), kept.plain)
          (grind (arith, nat_tests));
    }

-- ---- what all bytes say of the names

count_append : (xs ys : List ℕ) → count_by is_space (xs ++ ys) ≡ count_by is_space xs + count_by is_space ys
count_append xs ys =
    rw (
      ← length-filter is_space (xs ++ ys),
      ← length-filter is_space xs,
      ← length-filter is_space ys,
      filter-append is_space xs ys,
    ) (length-append (filter is_space xs) (filter is_space ys))

name_bytes : (name : List ℕ) → list_all is_name_byte name
    ≡ (list_all is_spaced_byte name && nat_eq (count_by is_space name) 0)
name_bytes [] = refl
name_bytes (x ∷ xs) = grind (arith, nat_tests, name_bytes xs, count_append (x ∷ []) xs)

spaces_more : (x : List ℕ) (xs : List (List ℕ)) → count_by is_space (flat_map spaced (x ∷ xs))
    ≡ 1 + (count_by is_space x + count_by is_space (flat_map spaced xs))
spaces_more x xs =
    let one = count_append (32 ∷ []) (x ++ flat_map spaced xs) in
    let two = count_append x (flat_map spaced xs) in
    rw (one, two) refl

spaces_of : (names : List (List ℕ)) → length names ≤ count_by is_space (flat_map spaced names)
spaces_of [] = omega arith
spaces_of (x ∷ xs) = omega (arith, spaces_of xs, spaces_more x xs)

pub valid_names : (names : List (List ℕ)) → list_all is_valid_name names
    ≡ (list_all has_length names && (list_all is_spaced_byte (flat_map spaced names)
    && nat_eq (count_by is_space (flat_map spaced names)) (length names)))
valid_names [] = refl
valid_names (x ∷ xs) = grind (
  arith,
  nat_tests,
  valid_names xs,
  spaces_of xs,
  spaces_more x xs,
  name_bytes x,
  list_all-append is_spaced_byte x (flat_map spaced xs),
)

pub kept_valid : (b : List ℕ) (ss : List Span) (p : Bool) → AreKept b ss p
    → list_all is_valid_name (map (bytes_at b) ss)
    ≡ (p && (list_all is_spaced_byte b && nat_eq (count_by is_space b) (length ss)))
kept_valid b ss p kept =
    let names = map (bytes_at b) ss in
    let P : List ℕ → ℕ → Bool → Type 0 = λ bytes n q. list_all is_valid_name names
    ≡ (q && (list_all is_spaced_byte bytes && nat_eq (count_by is_space bytes) n)) in
    let one : P b (length names) (list_all has_length names) =
    subst (λ bytes. P bytes (length names) (list_all has_length names)) kept.packed (valid_names names) in
    let two : P b (length names) p = subst (P b (length names)) (sym kept.plain) one in
    subst (λ n. P b n p) (length-map ss (bytes_at b)) two
