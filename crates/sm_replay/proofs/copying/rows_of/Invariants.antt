use Rattle.std.proofs.Common.{take}
use Rattle.sm_replay.specs.Replaying.{AreSameRows}
use Rattle.sm_replay.proofs.copying.rows_of.Given as goal

abbrev pub invariant-loop-row : goal.invariant-loop-row
invariant-loop-row l = AreSameRows (take l.row-index l.fn.rows) l.copies.items
