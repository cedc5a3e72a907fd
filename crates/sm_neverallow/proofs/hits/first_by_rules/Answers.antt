use Rattle.std.proofs.Common.{arith, refl}
use Rattle.sm_neverallow.specs.Hitting.{Misses}
use Rattle.sm_neverallow.proofs.Sifting.{one_more_place}
use Rattle.sm_neverallow.proofs.hits.first_by_rules.Goals as goal

pub loop-k-preserved : goal.loop-k-preserved
loop-k-preserved c =
    one_more_place c.args.rules.now c.args.places.now (Misses c.args.matrix.now c.args.count) c.loop-k.k
    c.index-rules-places.result (c.requires.places.inside c.loop-k.k (omega arith)) c.index-rules-places.is
    (record { misses = c.if-meets.ensures.none refl }) c.loop-k.invariant
