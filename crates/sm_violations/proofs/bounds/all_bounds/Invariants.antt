use Rattle.std.proofs.Common.{◌≡◌, ◌≤◌, vec_len}
use Rattle.std.specs.Vec.{vec_capacity}
use Rattle.sm_violations.proofs.Blocks.{BoundBelow}
use Rattle.sm_violations.proofs.bounds.all_bounds.Given as goal

abbrev pub invariant-loop-bit : goal.invariant-loop-bit
invariant-loop-bit l = record {
  so_far : BoundBelow l.matrices l.fn.count l.bit l.all.items;
  many : vec_len l.all ≡ l.bit;
  room : 7 ≤ vec_capacity l.all;
}
