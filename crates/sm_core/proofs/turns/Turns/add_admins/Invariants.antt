use Rattle.std.proofs.Common.{◌≡◌, ◌++◌, map, take}
use Rattle.std.specs.HashMap.{keys}
use Rattle.sm_history.specs.Segments.{admin}
use Rattle.sm_core.specs.Counting.{row_for}
use Rattle.sm_core.proofs.turns.Turns.add_admins.Given as goal

abbrev pub invariant-loop-i : goal.invariant-loop-i
invariant-loop-i l = l.rows.items ≡ l.fn.rows.items
    ++ map (row_for l.fn.self) (map admin (take l.i (keys l.fn.self.admins)))
