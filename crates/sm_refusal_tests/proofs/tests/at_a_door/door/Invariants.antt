use Rattle.sm_core.specs.Opening.{opened}
use Rattle.sm_refusal_tests.proofs.tests.at_a_door.door.Given as goal

-- The registry that was just made, and the opening.
abbrev pub ghosts-opens : goal.ghosts-opens
ghosts-opens g a = record { registry = a.unnamed.seen.book; opening = opened a.places a.who a.rules }
