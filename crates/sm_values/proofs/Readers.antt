-- What holds of all readers.
use Rattle.std.proofs.Common.{◌≡◌, Bool, true, false, Ok, Err, refl}
use Rattle.std.specs.Prelude.{Result}
use Rattle.std.specs.Bool.{OnFalse}
use Rattle.sm_values.specs.Reading.{◌>>=◌, Fails}

-- A fault of a part is one of the whole, if the whole has each fault of the part.
pub fails_along : {A B E : Type 0} (is_memory : E → Bool) (e : E) (part : Result A E) (whole : Result B E)
    → (part ≡ Err e → whole ≡ Err e) → Fails is_memory e part → Fails is_memory e whole
fails_along is_memory e part whole along = by (is_memory e) where
  by : (b : Bool) → OnFalse b (part ≡ Err e) → OnFalse b (whole ≡ Err e)
  by true h = h
  by false h = along h

-- What went well went well in both parts.
pub went_well : {A B E : Type 0} (r : Result A E) (f : A → Result B E) (y : B) → (r >>= f) ≡ Ok y
    → (x : A) × (r ≡ Ok x) × (f x ≡ Ok y)
went_well (Ok x) f y e = (x, refl, e)
went_well (Err d) f y e = absurd cc
