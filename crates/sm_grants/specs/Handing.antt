-- The references of a call as its receiver gets them, from the objects that they name.
use Rattle.std.specs.Prelude.{ℕ, ◌≡◌, true, false, ◌==◌, List, [], ◌∷◌, Option, Some, None, is_some, if◌then◌else◌}
use Rattle.sm_values.specs.declared.number.Node.{Node}
use Rattle.sm_values.specs.declared.number.ObjRef.{ObjRef}
use Rattle.sm_history.specs.declared.delivery.Given.{Given, TheVariants.Handle, TheVariants.Own, TheVariants.Null}
use Rattle.sm_history.specs.Effects.{Effects}
use Rattle.sm_history.specs.Holdings.{resolve_at}
use Rattle.sm_history.specs.Verdict.{is_null}

-- The references name these objects, or are null.
abbrev pub AreNamed : Effects → ℕ → List ObjRef → List (Option Node) → Type 0
AreNamed d from [] [] = Unit {0}
AreNamed d from [] (o ∷ os) = ⊥
AreNamed d from (r ∷ rs) [] = ⊥
AreNamed d from (r ∷ rs) (o ∷ os) = (resolve_at d from r ≡ o) × (is_null r ≡ false → is_some o ≡ true)
    × AreNamed d from rs os

-- These are the objects that the receiver doesn't own, which need handles.
abbrev pub others : ℕ → List (Option Node) → List Node
others to [] = []
others to (None ∷ os) = others to os
others to (Some n ∷ os) = if n.owner.0 == to then others to os else n ∷ others to os

-- The receiver gets these references, with numbers for those that need handles.
abbrev pub given_as : ℕ → List (Option Node) → List ℕ → List Given
given_as to [] numbers = []
given_as to (None ∷ os) numbers = Null ∷ given_as to os numbers
given_as to (Some n ∷ os) [] = Own n.object ∷ given_as to os []
given_as to (Some n ∷ os) (k ∷ numbers) = if n.owner.0 == to then Own n.object ∷ given_as to os (k ∷ numbers)
    else Handle k ∷ given_as to os numbers
