use Rattle.std.proofs.Common.{◌≡◌, take}
use Rattle.std.specs.List.{count_by}
use Rattle.sm_history.specs.NameLists.{is_space}
use Rattle.sm_history.proofs.name_bytes.spaces_in.Given as goal

abbrev pub invariant-loop-b : goal.invariant-loop-b
invariant-loop-b l = l.count ≡ count_by is_space (take l.b-index l.bytes)
