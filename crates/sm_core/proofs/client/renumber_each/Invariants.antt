use Rattle.std.proofs.Common.{◌≡◌}
use Rattle.sm_core.specs.Tables.{row_under}
use Rattle.sm_core.proofs.Renumbering.{mapped_to}
use Rattle.sm_core.proofs.client.renumber_each.Given as goal

abbrev pub invariant-loop-row : goal.invariant-loop-row
invariant-loop-row l = l.rows ≡ mapped_to (row_under l.policy l.manager.who) l.initial.rows l.row-index
