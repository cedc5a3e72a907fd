use Rattle.std.proofs.Common.{◌≡◌, ◌++◌, take}
use Rattle.std.specs.List.{flat_map}
use Rattle.sm_status.specs.StateLines.{service_line}
use Rattle.sm_status.proofs.lines.push_services.Given as goal

abbrev pub invariant-loop-row : goal.invariant-loop-row
invariant-loop-row l = l.out.items
    ≡ l.fn.out.items ++ flat_map (service_line l.fn.policy) (take l.row-index l.fn.names)
