-- Security contexts: user:role:type or user:role:type:range.
use Rattle.std.specs.Prelude.{◌≡◌, ℕ, ◌+◌, Bool, false, not, ◌&&◌, ◌||◌, ◌==◌, nat_le, if◌then◌else◌, List, length}
use Rattle.std.specs.Prelude.{take, drop, Option, Some, None, option_map}
use Rattle.std.specs.List.{prefix_len, list_all}
use Rattle.std.specs.Borrow.{Bor}

-- An optional reference points to these bytes.
abbrev pub SeenAs : Option (Bor (List ℕ)) → Option (List ℕ) → Type 0
SeenAs r expected = option_map (λ x. x.now) r ≡ expected

-- A byte is from 0x21 to 0x7E.
abbrev pub is_graphic : ℕ → Bool
is_graphic b = nat_le 33 b && nat_le b 126

-- A byte isn't a colon.
abbrev pub is_in_part : ℕ → Bool
is_in_part b = not (b == 58)

-- These are the bytes after the first part and its colon, or none if there is no colon.
abbrev pub behind_part : List ℕ → List ℕ
behind_part bytes = drop (prefix_len is_in_part bytes + 1) bytes

-- These are the bytes before the first colon.
abbrev pub first_part : List ℕ → List ℕ
first_part bytes = take (prefix_len is_in_part bytes) bytes

-- This is the third part of a context.
abbrev pub type_of : List ℕ → List ℕ
type_of text = first_part (behind_part (behind_part text))

-- These are the bytes after a nonempty part and its colon.
abbrev pub after_part : List ℕ → Option (List ℕ)
after_part bytes =
    if prefix_len is_in_part bytes == 0 || prefix_len is_in_part bytes == length bytes then None
    else Some (drop (prefix_len is_in_part bytes + 1) bytes)

-- The bytes are a nonempty type, alone or followed by a colon and a nonempty range.
abbrev pub is_type_and_range : List ℕ → Bool
is_type_and_range bytes =
    not (prefix_len is_in_part bytes == 0) && not (prefix_len is_in_part bytes + 1 == length bytes)

-- There are such bytes.
abbrev pub ends_well : Option (List ℕ) → Bool
ends_well None = false
ends_well (Some rest) = is_type_and_range rest

-- There are bytes after a role and its colon, and they are such.
abbrev pub ends_behind_role : Option (List ℕ) → Bool
ends_behind_role None = false
ends_behind_role (Some role) = ends_well (after_part role)

-- The bytes are a context: graphic bytes that are a user, a role, and a type with or without a range.
unfoldable pub is_context : List ℕ → Bool
is_context text = list_all is_graphic text && ends_behind_role (after_part text)
