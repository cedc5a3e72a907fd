-- The written grammar of the fields of request lines: which bytes spell which value.
use Rattle.std.specs.Prelude.{◌≡◌, ◌≢◌, ◌<◌, ◌≤◌, ◌⊎◌, ◌+◌, ◌*◌, ℕ, Bool, true, false, length, codes, List, []}
use Rattle.std.specs.Prelude.{◌∷◌, ◌++◌}
use Rattle.std.specs.Fmt.{decimal}
use Rattle.std.specs.Int.{IsInRange}
use Rattle.std.specs.List.{AllByRecursion, join_with_byte}
use Rattle.sm_values.specs.declared.class.Class.{Class, TheVariants.ServiceManager, TheVariants.Binder}
use Rattle.sm_values.specs.declared.limits.TheConstants.{MOST_PAYLOAD_BYTES}
use Rattle.sm_values.specs.declared.number.ObjRef.{ObjRef, TheVariants.Own, TheVariants.Handle, TheVariants.Null}
use Rattle.sm_values.specs.declared.perms.Perms.{Perms}
use Rattle.sm_values.specs.Permissions.{bit}
use Rattle.sm_wire.specs.Number.{u32_max}

-- A number of at most max is spelled by its decimal digits, without leading zeros.
pub data SpellsNumber (max : ℕ) : List ℕ → ℕ → Type 0 where
  digits : (n : ℕ) → n ≤ max → SpellsNumber max (decimal n) n

-- A hexadecimal digit is `0` to `9`, `A` to `F` or `a` to `f`.
pub data SpellsDigit : ℕ → ℕ → Type 0 where
  figure : (v : ℕ) → v < 10 → SpellsDigit (48 + v) v
  capital : (v : ℕ) → v < 6 → SpellsDigit (65 + v) (10 + v)
  small : (v : ℕ) → v < 6 → SpellsDigit (97 + v) (10 + v)

-- Bytes are spelled by two hexadecimal digits each.
pub data SpellsBytes : List ℕ → List ℕ → Type 0 where
  none : SpellsBytes [] []
  more : (a b high low : ℕ) (digits bytes : List ℕ) → SpellsDigit a high → SpellsDigit b low → SpellsBytes digits bytes
      → SpellsBytes (a ∷ b ∷ digits) ((16 * high + low) ∷ bytes)

-- NAME is itself, if its bytes are from 0x21 to 0x7E and the first one isn't `%` (37); or `%` and hexadecimal digits.
pub data SpellsName : List ℕ → List ℕ → Type 0 where
  plain : (b : ℕ) (bs : List ℕ) → b ≢ 37 → AllByRecursion (IsInRange 33 126) (b ∷ bs) → SpellsName (b ∷ bs) (b ∷ bs)
  coded : (digits name : List ℕ) → SpellsBytes digits name → SpellsName (codes "%" ++ digits) name

-- REF is `oN`, `hN` or `null`.
pub data SpellsReference : List ℕ → ObjRef → Type 0 where
  own : (digits : List ℕ) (n : ℕ) → SpellsNumber u32_max digits n → SpellsReference (codes "o" ++ digits) (Own n)
  handle : (digits : List ℕ) (n : ℕ) → SpellsNumber u32_max digits n → SpellsReference (codes "h" ++ digits) (Handle n)
  null : SpellsReference (codes "null") Null

-- REF may be repeated any number of times.
pub data SpellsReferences : List (List ℕ) → List ObjRef → Type 0 where
  none : SpellsReferences [] []
  more : (field : List ℕ) (fields : List (List ℕ)) (first : ObjRef) (others : List ObjRef) → SpellsReference field first
      → SpellsReferences fields others → SpellsReferences (field ∷ fields) (first ∷ others)

-- PAYLOAD is `-` for no bytes, or hexadecimal digits.
pub data SpellsPayload : List ℕ → List ℕ → Type 0 where
  none : SpellsPayload (codes "-") []
  some : (digits bytes : List ℕ) → SpellsBytes digits bytes → 0 < length bytes → length bytes ≤ MOST_PAYLOAD_BYTES
      → SpellsPayload digits bytes

-- Each value of a field of words has its word.
abbrev pub Words : Type 0 → Type 0
Words X = List (List ℕ × X)

-- ALLOW is `0` or `1`.
abbrev pub flag_words : Words Bool
flag_words = (codes "0", false) ∷ (codes "1", true) ∷ []

-- CLASS is the word of a class.
abbrev pub class_words : Words Class
class_words = (codes "service_manager", ServiceManager) ∷ (codes "binder", Binder) ∷ []

-- PERM is the word of a permission.
abbrev pub perm_words : Words Perms
perm_words =
    (codes "add", bit 1) ∷ (codes "find", bit 2) ∷ (codes "list", bit 4) ∷ (codes "impersonate", bit 8)
    ∷ (codes "call", bit 16) ∷ (codes "set_context_mgr", bit 32) ∷ (codes "transfer", bit 64) ∷ []

-- A word of a table spells its value.
abbrev pub SpellsWord : {X : Type 0} → Words X → List ℕ → X → Type 0
SpellsWord [] text v = ⊥
SpellsWord (w ∷ ws) text v = ((text ≡ w.0) × (w.1 ≡ v)) ⊎ SpellsWord ws text v

-- A part of a context is one byte or more from 0x21 to 0x7E, none of them `:`, which is 58.
abbrev pub IsPart : List ℕ → Type 0
IsPart part = (0 < length part) × AllByRecursion (IsInRange 33 126) part × AllByRecursion (λ b. b ≢ 58) part

-- CONTEXT is `user:role:type` or `user:role:type:range`, where the range is one byte or more from 0x21 to 0x7E.
pub data IsContext : List ℕ → Type 0 where
  three : (user role type : List ℕ) → IsPart user → IsPart role → IsPart type
      → IsContext (join_with_byte 58 (user ∷ role ∷ type ∷ []))
  four : (user role type range : List ℕ) → IsPart user → IsPart role → IsPart type → 0 < length range
      → AllByRecursion (IsInRange 33 126) range → IsContext (join_with_byte 58 (user ∷ role ∷ type ∷ range ∷ []))
