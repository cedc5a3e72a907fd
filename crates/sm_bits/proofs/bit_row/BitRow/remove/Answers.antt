use Rattle.std.proofs.Common.{◌<◌, ◌/◌, length, arith, ap}
use Rattle.sm_bits.proofs.Words.{read_is}
use Rattle.sm_bits.proofs.FreeNumbers.{has_removed}
use Rattle.sm_bits.proofs.bit_row.BitRow.remove.Goals as goal

pub returns-clause-removed : goal.returns-clause-removed
returns-clause-removed c j =
    let inside : c.args.i / 64 < length c.self.inside.words.items = omega (arith, ap length c.self.view_is) in
    let e = read_is c.self.inside.words.items (c.args.i / 64) c.index_mut.result.now inside c.index_mut.ensures.value in
    rw (← c.self.view_is, e) (has_removed c.self.inside.words.items c.args.i j inside)
