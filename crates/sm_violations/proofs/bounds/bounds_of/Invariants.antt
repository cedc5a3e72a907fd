use Rattle.std.proofs.Common.{◌≡◌, ◌≤◌, ◌+◌, ◌/◌, vec_len}
use Rattle.std.specs.Vec.{vec_capacity}
use Rattle.sm_matrices.specs.Matrices.{matrix}
use Rattle.sm_violations.proofs.Blocks.{BlocksBelow}
use Rattle.sm_violations.proofs.bounds.bounds_of.Given as goal

abbrev pub invariant-loop-block : goal.invariant-loop-block
invariant-loop-block l = record {
  so_far : BlocksBelow (matrix l.matrices l.fn.bit) l.fn.count l.block l.blocks.items;
  many : vec_len l.blocks ≡ l.block;
  room : l.fn.count / 64 + 1 ≤ vec_capacity l.blocks;
}
