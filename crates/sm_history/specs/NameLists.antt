-- How a list of names is kept.
use Rattle.std.specs.Prelude.{◌≡◌, ℕ, ◌+◌, ◌≤◌, Bool, ◌&&◌, ◌||◌, nat_eq, nat_le, List, ◌∷◌, take, drop, length, map}
use Rattle.std.specs.List.{All, flat_map, list_all}
use Rattle.sm_values.specs.declared.limits.TheConstants.{MOST_NAME_BYTES}
use Rattle.sm_values.specs.Names.{is_name_byte}
use Rattle.sm_history.specs.declared.name_list.Span.{Span}

-- These are the bytes of a span.
abbrev pub bytes_at : List ℕ → Span → List ℕ
bytes_at bytes span = take span.len (drop span.start bytes)

-- The span is within the bytes.
abbrev pub IsWithin : List ℕ → Span → Type 0
IsWithin bytes span = span.start + span.len ≤ length bytes

-- This is a name after a space.
abbrev pub spaced : List ℕ → List ℕ
spaced name = 32 ∷ name

-- A byte is a space.
abbrev pub is_space : ℕ → Bool
is_space b = nat_eq b 32

-- A byte is a space, or may be in a service name.
-- A byte is a space.
abbrev pub is_spaced_byte : ℕ → Bool
is_spaced_byte b = is_name_byte b || is_space b

-- A service name may have this length.
abbrev pub is_length : ℕ → Bool
is_length n = nat_le 1 n && nat_le n MOST_NAME_BYTES

-- Its length is one of a service name.
abbrev pub has_length : List ℕ → Bool
has_length name = is_length (length name)

-- The spans are within the bytes, their names one after another, each after a space, are all bytes, and it is known
-- whether each has a length of a service name.
pub record AreKept (bytes : List ℕ) (spans : List Span) (is_plain : Bool) : Type 0 where
  pub within : All (IsWithin bytes) spans
  pub packed : flat_map spaced (map (bytes_at bytes) spans) ≡ bytes
  pub plain : is_plain ≡ list_all has_length (map (bytes_at bytes) spans)
