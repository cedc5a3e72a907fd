-- Names.
use Rattle.std.specs.Prelude.{ℕ, Bool, List, ◌&&◌, ◌||◌, ◌==◌, nat_le, length}
use Rattle.std.specs.List.{list_any, list_all}
use Rattle.std.specs.Str.{bytes_eq}
use Rattle.std.specs.Char.{is_ascii_alphanumeric}
use Rattle.sm_values.specs.declared.limits.TheConstants.{MOST_NAME_BYTES}

-- A name is in a list.
abbrev pub contains : List (List ℕ) → List ℕ → Bool
contains names name = list_any (λ n. bytes_eq n name) names

-- A byte is an ASCII letter or digit, `_`, `-`, `.` or `/`.
abbrev pub is_name_byte : ℕ → Bool
is_name_byte b = (((is_ascii_alphanumeric b || b == 95) || b == 45) || b == 46) || b == 47

-- A valid name has at least one byte, at most the limit, and only such bytes.
abbrev pub is_valid_name : List ℕ → Bool
is_valid_name name = nat_le 1 (length name) && nat_le (length name) MOST_NAME_BYTES && list_all is_name_byte name
