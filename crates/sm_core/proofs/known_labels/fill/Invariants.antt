use Rattle.sm_policy.specs.Policy.{Policy}
use Rattle.sm_core.specs.KnownLabels.{AreKnown}
use Rattle.sm_core.proofs.known_labels.fill.Given as goal

abbrev pub invariant-loop : goal.invariant-loop
invariant-loop l = (p : Policy) → AreKnown p l.initial.slots.items → AreKnown p l.slots.items
