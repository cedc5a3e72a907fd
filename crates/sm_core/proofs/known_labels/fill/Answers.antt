use Rattle.std.proofs.Common.{List, subst, sym}
use Rattle.std.specs.Prelude.{Option}
use Rattle.sm_core.specs.declared.known_labels.KnownLabel.{KnownLabel}
use Rattle.sm_core.specs.KnownLabels.{AreKnown}
use Rattle.sm_core.proofs.KnownLabels.{known_pushed}
use Rattle.sm_core.proofs.known_labels.fill.Goals as goal

pub returns-then-is_err-2 : goal.returns-then-is_err-2
returns-then-is_err-2 c = λ p known. known_pushed p _ c.loop.slots.items c.push.new.self.items c.push.ensures.items
    (c.loop.invariant p
    (subst (λ (slots : List (Option KnownLabel)). AreKnown p slots) (sym c.reserve.ensures.items) known))

pub loop-preserved : goal.loop-preserved
loop-preserved c = λ p known.
    known_pushed p _ c.loop.slots.items c.push.new.self.items c.push.ensures.items (c.loop.invariant p known)

pub returns : goal.returns
returns c = λ p known. c.loop.invariant p
    (subst (λ (slots : List (Option KnownLabel)). AreKnown p slots) (sym c.reserve.ensures.items) known)
