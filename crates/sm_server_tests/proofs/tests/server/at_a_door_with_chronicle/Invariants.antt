use Rattle.sm_core.specs.Opening.{opened}
use Rattle.sm_server_tests.proofs.tests.server.at_a_door_with_chronicle.Given as goal

-- The registry that was just made, and the opening.
abbrev pub ghosts-serves : goal.ghosts-serves
ghosts-serves g a = record { registry = a.unnamed.seen.book; opening = opened a.places a.who a.policy }
