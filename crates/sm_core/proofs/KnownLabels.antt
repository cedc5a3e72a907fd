-- Labels that are kept with a policy.
use Rattle.std.proofs.Common.{◌≡◌, ℕ, zero, suc, ◌++◌, Bool, true, false, List, [], ◌∷◌, Some, None, ap, subst, sym}
use Rattle.std.proofs.Common.{if◌then◌else◌}
use Rattle.std.specs.Prelude.{Option, slice_get}
use Rattle.std.proofs.lemmas.Bool.{false≢true}
use Rattle.sm_values.specs.Contexts.{type_of}
use Rattle.sm_policy.specs.Policy.{Policy, type_index, label_of}
use Rattle.sm_core.specs.declared.known_labels.KnownLabel.{KnownLabel}
use Rattle.sm_core.specs.KnownLabels.{AreKnown}

-- A kept label is that of each name that is equal to its own.
pub known_of : (p : Policy) (slots : List (Option KnownLabel)) (i : ℕ) (n : KnownLabel) (name : List ℕ)
    → AreKnown p slots → slice_get slots i ≡ Some (Some n) → n.name ≡ name
    → (n.context ≡ label_of p name) × (type_index p (type_of (label_of p name)) ≡ Some n.index)
known_of p slots i n name known at is =
    subst (λ (t : List ℕ). (n.context ≡ label_of p t) × (type_index p (type_of (label_of p t)) ≡ Some n.index)) is
    (known i n at)

-- A slot has a label.
abbrev has_label : Option (Option KnownLabel) → Bool
has_label (Some (Some n)) = true
has_label _ = false

-- One more slot has no label.
known_empty : (p : Policy) (slots : List (Option KnownLabel)) → AreKnown p slots → AreKnown p (slots ++ None ∷ [])
known_empty p [] known zero n at = absurd (false≢true (ap has_label at))
known_empty p [] known (suc i) n at = absurd (false≢true (ap has_label at))
known_empty p (x ∷ xs) known zero n at = known zero n at
known_empty p (x ∷ xs) known (suc i) n at = known_empty p xs (λ j m a. known (suc j) m a) i n at

pub known_pushed : (p : Policy) (b : Bool) (old new : List (Option KnownLabel))
    → new ≡ (if b then old ++ None ∷ [] else old) → AreKnown p old → AreKnown p new
known_pushed p true old new is known =
    subst (λ (slots : List (Option KnownLabel)). AreKnown p slots) (sym is) (known_empty p old known)
known_pushed p false old new is known =
    subst (λ (slots : List (Option KnownLabel)). AreKnown p slots) (sym is) known
