use Rattle.std.proofs.Common.{◌≡◌, take}
use Rattle.sm_history.proofs.effect.watches_of.Given as goal

abbrev pub invariant-loop-watch : goal.invariant-loop-watch
invariant-loop-watch l = l.copies.items ≡ take l.watch-index l.fn.watches
