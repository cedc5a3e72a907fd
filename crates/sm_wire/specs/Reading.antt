-- Results of parsing a field or a line.
use Rattle.std.specs.Prelude.{◌≡◌, Option, Some, None, option_and_then, Result, Ok, Err}
use Rattle.sm_wire.specs.declared.read_error.ReadError.{ReadError, TheVariants.Malformed, TheVariants.Memory}

-- A value goes to the next parser.
infixl 10 ◌>>=◌
abbrev pub ◌>>=◌ : {A B : Type 0} → Option A → (A → Option B) → Option B
o >>= f = option_and_then f o

-- This is the first of two results that there is.
abbrev pub first_of_two : {A : Type 0} → Option A → Option A → Option A
first_of_two (Some r) other = Some r
first_of_two None other = other

-- The value is that of the grammar, and `Malformed` means that there is none; out of memory may come for any bytes.
abbrev pub ReadsAs : {A : Type 0} → Result A ReadError → Option A → Type 0
ReadsAs (Ok x) o = o ≡ Some x
ReadsAs (Err Malformed) o = o ≡ None
ReadsAs (Err Memory) o = Unit {0}
