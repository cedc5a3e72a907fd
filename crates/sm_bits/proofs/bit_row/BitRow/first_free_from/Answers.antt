use Rattle.std.proofs.Common.{◌≤◌, ◌/◌, ap, length, arith}
use Rattle.sm_bits.proofs.Words.{has_past}
use Rattle.sm_bits.proofs.bit_row.BitRow.first_free_from.Goals as goal

pub returns-then-from-len-clause-free : goal.returns-then-from-len-clause-free
returns-then-from-len-clause-free c =
    let long : length c.args.self.now ≤ c.args.from / 64 =
    omega (arith, c.if-from-len.true, c.len.ensures, ap length c.self.view_is) in
    has_past c.args.self.now c.args.from long
