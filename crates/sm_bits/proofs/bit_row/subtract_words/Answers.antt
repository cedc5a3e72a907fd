use Rattle.std.proofs.Common.{refl, arith, ◌<◌, ◌^◌, ◌&&◌, not, get_or}
use Rattle.sm_bits.proofs.Words.{turned, turned_all, without_bits}
use Rattle.sm_bits.proofs.bit_row.subtract_words.Goals as goal

pub loop-i-preserved : goal.loop-i-preserved
loop-i-preserved c =
    let fits : get_or c.args.others.now c.loop-i.i 0 < 2 ^ 64 = omega (arith, c.type_inv.others c.loop-i.i) in
    turned (λ a b. a && not b) c.args.words.now c.loop-i.words c.args.others.now c.loop-i.i _ (omega arith)
    (λ b h. without_bits _ _ b fits h) c.loop-i.invariant

pub returns : goal.returns
returns c = turned_all (λ a b. a && not b) c.args.words.now c.loop-i.words c.args.others.now refl c.loop-i.auto.words
    c.requires c.loop-i.i (omega arith) c.loop-i.invariant
