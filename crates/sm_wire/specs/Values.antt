-- The fields of request lines.
use Rattle.std.specs.Prelude.{ℕ, List, [], ◌∷◌, length, Option, Some, None, Bool, nat_le, ◌==◌, if◌then◌else◌, codes}
use Rattle.std.specs.Prelude.{true, false}
use Rattle.std.specs.List.{list_all}
use Rattle.std.specs.Result.{result_ok}
use Rattle.std.specs.Str.{bytes_eq}
use Rattle.hex.specs.Hex.{decode_of}
use Rattle.sm_values.specs.declared.limits.TheConstants.{MOST_PAYLOAD_BYTES, MOST_REFS}
use Rattle.sm_values.specs.declared.number.ObjRef.{ObjRef, TheVariants.Own, TheVariants.Handle, TheVariants.Null}
use Rattle.sm_values.specs.declared.class.Class.TheVariants.{ServiceManager, Binder}
use Rattle.sm_values.specs.declared.perms.Perms.{Perms}
use Rattle.sm_values.specs.Contexts.{is_graphic, is_context}
use Rattle.sm_values.specs.Permissions.{perm_read}
use Rattle.sm_ruletext.specs.Lexing.{is_word}
use Rattle.sm_wire.specs.Number.{u32_max, parsed_number}
use Rattle.sm_wire.specs.Reading.{◌>>=◌, first_of_two}

-- This parses a name in plain bytes.
unfoldable pub plain_name_of : List ℕ → Option (List ℕ)
plain_name_of bytes = if list_all is_graphic bytes then Some bytes else None

-- This parses NAME: plain bytes that don't begin with `%`, or `%` and two hexadecimal digits for each byte.
unfoldable pub name_of : List ℕ → Option (List ℕ)
name_of [] = None
name_of (b ∷ bs) = if b == 37 then result_ok (decode_of bs) else plain_name_of (b ∷ bs)

-- This parses REF: `oN`, `hN` or `null`.
unfoldable pub reference_of : List ℕ → Option ObjRef
reference_of [] = None
reference_of (b ∷ bs) = if b == 111 then (do
  n ← parsed_number u32_max bs
  Some (Own n)) else (if b == 104 then (do
    n ← parsed_number u32_max bs
    Some (Handle n)) else (if bytes_eq (b ∷ bs) (codes "null") then Some Null else None))

-- This is the number of an object of the client's own.
abbrev pub own_number : ObjRef → Option ℕ
own_number (Own n) = Some n
own_number (Handle n) = None
own_number Null = None

-- This parses `oN`, the form of REF that names an object of the client's own.
unfoldable pub own_object_of : List ℕ → Option ℕ
own_object_of bytes = do
  reference ← reference_of bytes
  own_number reference

-- This parses REF, any number of times.
unfoldable pub references_of : List (List ℕ) → Option (List ObjRef)
references_of [] = Some []
references_of (field ∷ fields) = do
  first ← reference_of field
  others ← references_of fields
  Some (first ∷ others)

-- A call may pass these references.
abbrev pub fitting_references : List ObjRef → Option (List ObjRef)
fitting_references references = if nat_le (length references) MOST_REFS then Some references else None

-- This parses at most 16 REF.
unfoldable pub call_references_of : List (List ℕ) → Option (List ObjRef)
call_references_of fields = do
  references ← references_of fields
  fitting_references references

-- A call may have this payload.
abbrev pub fitting_payload : List ℕ → Option (List ℕ)
fitting_payload bytes = if nat_le (length bytes) MOST_PAYLOAD_BYTES then Some bytes else None

-- This parses a payload in hexadecimal digits.
unfoldable pub hex_payload_of : List ℕ → Option (List ℕ)
hex_payload_of digits = do
  bytes ← result_ok (decode_of digits)
  fitting_payload bytes

-- This parses PAYLOAD: `-` for no bytes, or two hexadecimal digits for each of at most 1,024 bytes.
unfoldable pub payload_of : List ℕ → Option (List ℕ)
payload_of [] = None
payload_of (b ∷ bs) = if bytes_eq (b ∷ bs) (codes "-") then Some [] else hex_payload_of (b ∷ bs)

-- This parses ALLOW: `0` or `1`.
unfoldable pub flag_of : List ℕ → Option Bool
flag_of bs = if bytes_eq bs (codes "0") then Some false else (if bytes_eq bs (codes "1") then Some true else None)

-- This parses CONTEXT.
unfoldable pub context_of : List ℕ → Option (List ℕ)
context_of text = if is_context text then Some text else None

-- This parses a word of the policy source.
unfoldable pub word_of : List ℕ → Option (List ℕ)
word_of bytes = if is_word bytes then Some bytes else None

-- This parses a permission of either class.
unfoldable pub perm_of : List ℕ → Option Perms
perm_of word = first_of_two (perm_read ServiceManager word) (perm_read Binder word)
