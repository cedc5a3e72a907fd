use Rattle.std.proofs.Common.{◌≡◌, map, take}
use Rattle.sm_core.specs.Statuses.{row_status}
use Rattle.sm_core.proofs.ledger.Ledger.client_statuses.Given as goal

abbrev pub invariant-loop-row : goal.invariant-loop-row
invariant-loop-row l = l.statuses.items
    ≡ map (row_status l.fn.self.book.history) (take l.row-index l.fn.rows)
