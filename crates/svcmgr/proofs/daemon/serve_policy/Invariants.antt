use Rattle.sm_core.specs.Opening.{opened}
use Rattle.svcmgr.proofs.daemon.serve_policy.Given as goal

-- The registry that was just made, and the opening.
abbrev pub ghosts-open : goal.ghosts-open
ghosts-open g a = record { registry = a.unnamed.seen.book; opening = opened a.places a.who a.policy }
