use Rattle.sm_neverallow.proofs.Ready.{ready_more}
use Rattle.sm_neverallow.proofs.hits.unions_of.Goals as goal

pub loop-j-preserved : goal.loop-j-preserved
loop-j-preserved c =
    ready_more c.args.matrix.now c.args.count c.args.first c.loop-j.j c.loop-j.all.items c.push.new.self.items
    c.in_ok-unions.unions c.in_ok-push.ensures.items c.in_ok-unions.ensures.wide c.in_ok-unions.ensures.united
    c.loop-j.invariant
