use Rattle.std.proofs.Common.{◌+◌, ◌*◌, arith}
use Rattle.sm_bits.specs.Bits.{has}
use Rattle.sm_bits.proofs.ByteBits.{told_none}
use Rattle.sm_neverallow.proofs.hits.place_in_group.Goals as goal

pub loop-bit-init : goal.loop-bit-init
loop-bit-init c = record {
  small = omega arith;
  told =
      told_none (λ b. has c.args.rule.now.sources (8 * c.args.group + b));
}
