use Rattle.std.proofs.Common.{arith, get_or}
use Rattle.std.specs.Int.Bits.{and_lt}
use Rattle.sm_bits.proofs.Words.{gathered_none, gathered_more, gathered_all}
use Rattle.sm_bits.proofs.bit_row.words_meet.Goals as goal

pub loop-i-init : goal.loop-i-init
loop-i-init c = gathered_none c.args.words.now c.args.others.now

pub loop-i-preserved : goal.loop-i-preserved
loop-i-preserved c =
    gathered_more c.args.words.now c.args.others.now c.loop-i.common c.loop-i.i
    (and_lt 64 (get_or c.args.words.now c.loop-i.i 0) (get_or c.args.others.now c.loop-i.i 0)
    (omega (arith, c.type_inv.words c.loop-i.i)) (omega (arith, c.type_inv.others c.loop-i.i)))
    c.loop-i.invariant

pub returns-clause-none : goal.returns-clause-none
returns-clause-none c h = gathered_all c.args.words.now c.args.others.now c.loop-i.common c.loop-i.i (omega arith) h
    c.loop-i.invariant
