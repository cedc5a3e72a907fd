use Rattle.std.proofs.Common.{◌≡◌, take}
use Rattle.sm_inbox.proofs.inboxes.copies_of.Given as goal

abbrev pub invariant-loop-i : goal.invariant-loop-i
invariant-loop-i l = l.copies.items ≡ take l.i l.fn.waiting.items
