use Rattle.std.proofs.Common.{◌≡◌, ◌++◌, take}
use Rattle.std.specs.List.{flat_map}
use Rattle.sm_status.specs.StateLines.{watch_line}
use Rattle.sm_status.proofs.lines.push_watches.Given as goal

abbrev pub invariant-loop-watch : goal.invariant-loop-watch
invariant-loop-watch l = l.out.items ≡ l.fn.out.items ++ flat_map watch_line (take l.watch-index l.fn.watches)
