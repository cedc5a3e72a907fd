use Rattle.std.proofs.Common.{◌≡◌, take}
use Rattle.sm_connection.specs.Owned.{with_notices}
use Rattle.sm_connection.proofs.owned.with_notices.Given as goal

abbrev pub invariant-loop-notice : goal.invariant-loop-notice
invariant-loop-notice l = l.sum ≡ with_notices l.bytes (take l.notice-index l.notices)
