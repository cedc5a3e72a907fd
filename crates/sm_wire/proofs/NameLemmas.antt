-- Names of 8 to 16 bytes are the same if their ends are.
use Rattle.std.proofs.Common.{◌≡◌, ◌∙◌, ℕ, ◌+◌, ◌-◌, ◌<◌, ◌≤◌, List, [], ◌∷◌, ◌++◌, zero, suc, length, take, drop}
use Rattle.std.proofs.Common.{get_or, arith, sym}
use Rattle.std.proofs.Common.{length-take-le, length-drop}
use Rattle.std.proofs.lemmas.List.{drop-drop, take-append-drop, get_or-drop}
use Rattle.std.proofs.lemmas.Nat.{le_bytes_8}
use Rattle.std.specs.Int.{w64, from_le_bytes}
use Rattle.sm_wire.specs.Names.{HasEnds}

-- Each element is a byte.
abbrev Bytes : List ℕ → Type 0
Bytes xs = (i : ℕ) → get_or xs i 0 < 256

take_bytes : (n : ℕ) (xs : List ℕ) → Bytes xs → Bytes (take n xs)
take_bytes zero xs small i = omega arith
take_bytes (suc n) [] small i = omega arith
take_bytes (suc n) (x ∷ xs) small zero = small zero
take_bytes (suc n) (x ∷ xs) small (suc i) = take_bytes n xs (λ k. small (suc k)) i

drop_bytes : (n : ℕ) (xs : List ℕ) → Bytes xs → Bytes (drop n xs)
drop_bytes n xs small i = rw (get_or-drop n xs i 0) (small (n + i))

same_eight : (xs ys : List ℕ) (n : ℕ) → length xs ≡ 8 → length ys ≡ 8 → Bytes xs → Bytes ys
    → n ≡ from_le_bytes w64 xs → n ≡ from_le_bytes w64 ys → xs ≡ ys
same_eight xs ys n long long_too small small_too is is_too =
    sym (le_bytes_8 xs n long small is) ∙ le_bytes_8 ys n long_too small_too is_too

pub same_ends : (a b : List ℕ) (first last : ℕ) → Bytes a → Bytes b → length a ≡ length b → length a ≤ 16
    → HasEnds a first last → HasEnds b first last → a ≡ b
same_ends a b first last small small_too same short ends ends_too =
    let front : take 8 a ≡ take 8 b = same_eight (take 8 a) (take 8 b) first
    (length-take-le 8 a ends.long) (length-take-le 8 b ends_too.long) (take_bytes 8 a small) (take_bytes 8 b small_too)
    ends.first_is ends_too.first_is in
    let len : length (drop (length a - 8) a) ≡ 8 = omega (arith, length-drop (length a - 8) a, ends.long) in
    let len_too : length (drop (length b - 8) b) ≡ 8 = omega (arith, length-drop (length b - 8) b, ends_too.long) in
    let back : drop (length a - 8) a ≡ drop (length b - 8) b =
    same_eight (drop (length a - 8) a) (drop (length b - 8) b) last len len_too
    (drop_bytes (length a - 8) a small) (drop_bytes (length b - 8) b small_too) ends.last_is ends_too.last_is in
    let all : (xs : List ℕ) → 8 ≤ length xs → length xs ≤ 16
    → take 8 xs ++ drop (16 - length xs) (drop (length xs - 8) xs) ≡ xs = λ xs more less.
    let behind : length xs - 8 + (16 - length xs) ≡ 8 = omega arith in
    rw (drop-drop (16 - length xs) (length xs - 8) xs, behind) (take-append-drop 8 xs) in
    sym (all a ends.long short) ∙ rw (front, back, same) (all b ends_too.long (omega (arith, same)))
