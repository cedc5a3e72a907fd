use Rattle.std.proofs.Common.{◌≡◌, take}
use Rattle.std.specs.List.{flat_map}
use Rattle.sm_suggestions.specs.Tallying.{count_line}
use Rattle.sm_suggestions.proofs.tally.Tally.lines.Given as goal

abbrev pub invariant-loop-i : goal.invariant-loop-i
invariant-loop-i l = l.text.items ≡ flat_map count_line (take l.i l.self)
