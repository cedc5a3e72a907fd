use Rattle.sm_bits.proofs.ByteBits.{bit_added}
use Rattle.sm_bits.proofs.byte_bits.with_bit.Goals as goal

pub returns : goal.returns
returns c b = bit_added c.args.byte c.args.bit b c.requires
