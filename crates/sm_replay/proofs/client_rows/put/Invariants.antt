use Rattle.std.proofs.Common.{◌≡◌, ℕ, length}
use Rattle.sm_history.specs.Tables.{slot}
use Rattle.sm_replay.proofs.client_rows.put.Given as goal

abbrev pub invariant-loop-i : goal.invariant-loop-i
invariant-loop-i l = ((j : ℕ) → slot l.slots.items j ≡ slot l.fn.slots.items j) × (length l.slots.items ≡ l.i)
