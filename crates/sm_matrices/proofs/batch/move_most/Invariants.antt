use Rattle.std.proofs.Common.{◌≡◌, ◌<◌, ◌≤◌, ◌+◌, ℕ, get_or, if◌then◌else◌}
use Rattle.sm_bits.specs.Bits.{has}
use Rattle.sm_matrices.proofs.batch.move_most.Given as goal

abbrev pub invariant-loop-s : goal.invariant-loop-s
invariant-loop-s l = record {
  below : (s : ℕ) → s < l.s → get_or l.places s 0
      ≡ get_or l.initial.places s 0 + (if has l.sources s then l.weight else 0);
  above : (s : ℕ) → l.s ≤ s → get_or l.places s 0 ≡ get_or l.initial.places s 0;
}
