-- The results of readers: a value or the first fault. `is_memory` says which fault of a reader means out of memory.
use Rattle.std.specs.Prelude.{◌≡◌, Bool, Result, Ok, Err}
use Rattle.std.specs.Bool.{OnFalse}

-- A value goes to the next reader; a fault is the result.
infixl 10 ◌>>=◌
abbrev pub ◌>>=◌ : {A B E : Type 0} → Result A E → (A → Result B E) → Result B E
(Ok x) >>= f = f x
(Err e) >>= f = Err e

-- The result is the expected fault. Out of memory may take the place of any fault.
abbrev pub Fails : {B E : Type 0} → (E → Bool) → E → Result B E → Type 0
Fails is_memory e expected = OnFalse (is_memory e) (expected ≡ Err e)

-- The result, seen by `view`, is the expected one, or an allocation failed.
abbrev pub Gives : {A B E : Type 0} → (E → Bool) → (A → B) → Result A E → Result B E → Type 0
Gives is_memory view (Ok x) expected = expected ≡ Ok (view x)
Gives is_memory view (Err e) expected = Fails is_memory e expected
