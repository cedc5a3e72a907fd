use Rattle.sm_unused.proofs.Rows.{all_more, all_none}
use Rattle.sm_unused.proofs.missing.all_pairs.Goals as goal

pub loop-init : goal.loop-init
loop-init c = rw c.new-all.ensures.items (all_none c.args.count)

pub loop-preserved : goal.loop-preserved
loop-preserved c = all_more c.args.count c.loop.counter c.loop.all.items c.push.new.self.items
    c.in_ok-pairs.pairs c.in_ok-push.ensures.items c.in_ok-pairs.ensures.square c.in_ok-pairs.ensures.all c.loop.invariant
