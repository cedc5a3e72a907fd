use Rattle.std.proofs.Common.{◌≡◌, ◌<◌, ◌≤◌, ◌+◌, ◌-◌, ◌*◌, ℕ, get_or, length, if◌then◌else◌}
use Rattle.sm_bits.specs.Bits.{has}
use Rattle.sm_matrices.proofs.batch.move_few.Given as goal

abbrev pub invariant-loop-s : goal.invariant-loop-s
invariant-loop-s l = record {
  below : (s : ℕ) → s < l.from → get_or l.places s 0
      ≡ get_or l.initial.places s 0 + (if has l.sources s then l.weight else 0);
  above : (s : ℕ) → l.from ≤ s → get_or l.places s 0 ≡ get_or l.initial.places s 0;
}

abbrev pub decreases-loop-s : goal.decreases-loop-s
decreases-loop-s l = 64 * length l.sources - l.from
