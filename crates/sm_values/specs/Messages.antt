-- Parts of messages.
use Rattle.std.specs.Prelude.{ℕ, List, [], ◌++◌, codes, unwrap_or, if◌then◌else◌}
use Rattle.std.specs.Fmt.{decimal}
use Rattle.hex.specs.Hex.{encode_lower}
use Rattle.sm_values.specs.Names.{is_valid_name}
use Rattle.sm_values.specs.declared.class.Class.{Class}
use Rattle.sm_values.specs.declared.perms.Perms.{Perms}
use Rattle.sm_values.specs.Permissions.{class_word, perm_word}

-- These are words and a number in decimal digits.
abbrev pub numbered : List ℕ → ℕ → List ℕ
numbered words n = words ++ decimal n

-- A valid name is written as it is, another as `%` and two lower-case hexadecimal digits for each byte, so no byte of
-- it ends a line.
unfoldable pub name_text : List ℕ → List ℕ
name_text name = if is_valid_name name then name else codes "%" ++ encode_lower name

-- An access is written as its source, target, class and permission. A set of none or several permissions has no word.
unfoldable pub access_words : List ℕ → List ℕ → Class → Perms → List ℕ
access_words source target class perm =
    source ++ codes " " ++ target ++ codes " " ++ class_word class ++ codes " " ++ unwrap_or (perm_word perm) []
