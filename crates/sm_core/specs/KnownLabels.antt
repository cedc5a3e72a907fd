-- Labels that are kept with a policy.
use Rattle.std.specs.Prelude.{ℕ, ◌≡◌, List, Option, Some, slice_get}
use Rattle.sm_values.specs.Contexts.{type_of}
use Rattle.sm_policy.specs.Policy.{Policy, type_index, label_of}
use Rattle.sm_core.specs.declared.known_labels.KnownLabel.{KnownLabel}

-- A kept label is that of its name.
abbrev pub IsKnown : Policy → KnownLabel → Type 0
IsKnown p n = (n.context ≡ label_of p n.name) × (type_index p (type_of (label_of p n.name)) ≡ Some n.index)

-- All kept labels are those of their names.
abbrev pub AreKnown : Policy → List (Option KnownLabel) → Type 0
AreKnown p slots = (i : ℕ) (n : KnownLabel) → slice_get slots i ≡ Some (Some n) → IsKnown p n
