use Rattle.std.proofs.Common.{◌+◌, ◌*◌, ◌<◌}
use Rattle.sm_bits.specs.Bits.{has}
use Rattle.sm_bits.proofs.ByteBits.{Told}
use Rattle.sm_neverallow.proofs.hits.place_in_group.Given as goal

abbrev pub invariant-loop-bit : goal.invariant-loop-bit
invariant-loop-bit l = record {
  small : l.place < 256;
  told : Told l.place (λ b. has l.rule.sources (8 * l.group + b)) l.bit;
}
