use Rattle.std.proofs.Common.{◌≡◌, ◌+◌, ◌/◌, ℕ, nat_lt, length}
use Rattle.sm_bits.specs.Bits.{has}
use Rattle.sm_types.proofs.table.all_types.Given as goal

abbrev pub invariant-loop-t : goal.invariant-loop-t
invariant-loop-t l = record { room : length l.set ≡ l.count / 64 + 1; done : (i : ℕ) → has l.set i ≡ nat_lt i l.t }
