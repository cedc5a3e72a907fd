use Rattle.std.proofs.Common.{refl, arith, ◌||◌}
use Rattle.sm_bits.proofs.Words.{turned, turned_all, or_bits}
use Rattle.sm_bits.proofs.bit_row.union_words.Goals as goal

pub loop-i-preserved : goal.loop-i-preserved
loop-i-preserved c = turned (λ a b. a || b) c.args.words.now c.loop-i.words c.args.others.now c.loop-i.i _ (omega arith)
    (λ b h. or_bits _ _ b) c.loop-i.invariant

pub returns : goal.returns
returns c = turned_all (λ a b. a || b) c.args.words.now c.loop-i.words c.args.others.now refl c.loop-i.auto.words
    c.requires c.loop-i.i (omega arith) c.loop-i.invariant
