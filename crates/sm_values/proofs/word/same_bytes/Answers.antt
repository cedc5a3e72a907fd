use Rattle.std.proofs.Common.{◌-◌, ◌*◌, length, arith}
use Rattle.sm_values.proofs.SameWords.{same_more, same_all}
use Rattle.sm_values.proofs.word.same_bytes.Goals as goal

pub returns-then-n-ge8-clause-yes : goal.returns-then-n-ge8-clause-yes
returns-then-n-ge8-clause-yes c same =
    let a = c.args.a.now in
    let b = c.args.b.now in
    let n = length a in
    let below = same_more a b (8 * c.loop-k.k) (n - 8) n c.loop-k.invariant (c.same_eight-then-n-ge8.ensures.yes same)
    (omega arith) (omega arith) in
    same_all a b n c.requires (omega arith) below

pub returns-clause-yes : goal.returns-clause-yes
returns-clause-yes c same =
    same_all c.args.a.now c.args.b.now c.loop-i.i c.requires (omega arith) c.loop-i.invariant
