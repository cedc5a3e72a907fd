use Rattle.std.proofs.Common.{◌<◌, length, arith}
use Rattle.std.proofs.lemmas.Option.{slice_get_within}
use Rattle.sm_neverallow.proofs.Broken.{sought_none, sought_all}
use Rattle.sm_neverallow.proofs.violation.first_broken.Goals as goal

pub loop-set-init : goal.loop-set-init
loop-set-init c = sought_none c.args.matrices.now c.args.neverallows.now c.args.count

pub returns-clause-none : goal.returns-clause-none
returns-clause-none c n never found =
    let inside : n < length c.args.neverallows.now = slice_get_within c.args.neverallows.now n never found in
    sought_all c.args.matrices.now c.args.neverallows.now c.args.count c.loop-set.set c.loop-set.place
    c.loop-set-test.false c.loop-set.invariant n never (omega arith) found
