use Rattle.std.proofs.Common.{◌≡◌, ◌<◌, ◌+◌, ◌/◌, ◌||◌, ◌&&◌, ℕ, length, get_or, nat_lt}
use Rattle.sm_bits.specs.Bits.{has, has_bit}
use Rattle.sm_unused.proofs.adders.add_granted.Given as goal

abbrev pub invariant-loop-t : goal.invariant-loop-t
invariant-loop-t l = record {
  room : length l.row ≡ l.fn.count / 64 + 1;
  added : (t : ℕ) → has l.row t
      ≡ (has l.initial.row t || (nat_lt t l.t && has_bit (get_or l.fn.granted t 0) 0));
}
