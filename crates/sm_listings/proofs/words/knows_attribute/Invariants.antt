use Rattle.std.proofs.Common.{◌≡◌, false, take}
use Rattle.std.specs.List.{list_any}
use Rattle.std.specs.Str.{bytes_eq}
use Rattle.sm_types.specs.Denoting.{attributes}
use Rattle.sm_listings.proofs.words.knows_attribute.Given as goal

abbrev pub invariant-loop-a : goal.invariant-loop-a
invariant-loop-a l = list_any (bytes_eq l.fn.word) (take l.a (attributes l.fn.policy.statements)) ≡ false
