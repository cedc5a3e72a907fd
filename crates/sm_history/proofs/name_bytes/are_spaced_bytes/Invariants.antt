use Rattle.std.proofs.Common.{◌≡◌, take}
use Rattle.std.specs.List.{list_all}
use Rattle.sm_history.specs.NameLists.{is_spaced_byte}
use Rattle.sm_history.proofs.name_bytes.are_spaced_bytes.Given as goal

abbrev pub invariant-loop-b : goal.invariant-loop-b
invariant-loop-b l = l.all ≡ list_all is_spaced_byte (take l.b-index l.bytes)
