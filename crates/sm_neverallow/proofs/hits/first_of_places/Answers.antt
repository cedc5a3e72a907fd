use Rattle.std.proofs.Common.{◌+◌, ◌*◌, arith}
use Rattle.sm_neverallow.proofs.Sifting.{sifted_none, sifted_more, sifted_all}
use Rattle.sm_neverallow.proofs.hits.first_of_places.Goals as goal

pub loop-step-init : goal.loop-step-init
loop-step-init c =
    sifted_none c.args.matrix.now c.args.rules.now c.args.places.now c.in_ok-own.own c.args.count
    c.first_own-found.result c.in_ok-own.ensures.diagonal c.requires.fits c.first_own-found.ensures

pub loop-step-preserved : goal.loop-step-preserved
loop-step-preserved c =
    sifted_more c.args.matrix.now c.args.rules.now c.args.places.now c.in_ok-own.own c.args.count (4 * c.loop-step.step)
    (4 * (c.loop-step.step + 1)) c.loop-step.found c.in_ok-found.found (omega arith) c.in_ok-found.ensures
    c.loop-step.invariant

pub returns : goal.returns
returns c =
    sifted_all c.args.matrix.now c.args.rules.now c.args.places.now c.in_ok-own.own c.args.count (4 * c.loop-step.step)
    c.loop-step.found c.in_ok-own.ensures.diagonal (omega arith) c.loop-step.invariant
