use Rattle.sm_matrices.proofs.Groups.{through_none, through_more}
use Rattle.sm_matrices.proofs.matrix.matrices_of.Goals as goal

pub loop-set-init : goal.loop-set-init
loop-set-init c = through_none c.args.rules.now c.args.count c.in_ok-matrices.matrices.items c.in_ok-matrices.ensures

pub loop-set-preserved : goal.loop-set-preserved
loop-set-preserved c =
    through_more c.args.rules.now c.args.count c.loop-set.set c.loop-set.matrices.items c.add_set.new.matrices.items
    c.in_ok-add_set.ensures c.loop-set.invariant
