-- The name in a record of a denial.
use Rattle.std.specs.Prelude.{ℕ, ◌==◌, if◌then◌else◌, List, [], ◌∷◌, Result, Ok, Err}
use Rattle.hex.specs.Hex.{decode_of}
use Rattle.hex.specs.declared.error.FromHexError.{FromHexError}

-- These are the bytes that were decoded. A word that can't be decoded is the name itself.
abbrev pub decoded_or : List ℕ → Result (List ℕ) FromHexError → List ℕ
decoded_or word (Ok bytes) = bytes
decoded_or word (Err e) = word

-- A word `%` with hexadecimal digits is the name whose bytes they are; it is what an audit record has for a name that
-- isn't valid. Another word is the name itself.
abbrev pub name_in : List ℕ → List ℕ
name_in [] = []
name_in (b ∷ digits) = if b == 37 then decoded_or (b ∷ digits) (decode_of digits) else b ∷ digits
