use Rattle.std.proofs.Common.{◌<◌, ◌/◌, ◌%◌, length, arith, ap}
use Rattle.sm_bits.proofs.Words.{has_is, tested, read_is}
use Rattle.sm_bits.proofs.bit_row.BitRow.has.Goals as goal

pub returns : goal.returns
returns c =
    let inside : c.args.i / 64 < length c.self.inside.words.items = omega (arith, ap length c.self.view_is) in
    let e = read_is c.self.inside.words.items (c.args.i / 64) c.index.result.now inside c.index.ensures in
    rw (← c.self.view_is, has_is c.self.inside.words.items c.args.i, ← e) (tested c.index.result.now (c.args.i % 64))
