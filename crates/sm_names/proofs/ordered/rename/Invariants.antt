use Rattle.std.proofs.Common.{◌≡◌, ◌++◌, take, drop}
use Rattle.std.specs.Prelude.{map}
use Rattle.sm_names.specs.Orders.{renamed}
use Rattle.sm_names.proofs.ordered.rename.Given as goal

abbrev pub invariant-loop-i : goal.invariant-loop-i
invariant-loop-i l =
    l.order ≡ map (renamed l.from l.to) (take l.i-index l.fn.order) ++ drop l.i-index l.fn.order
