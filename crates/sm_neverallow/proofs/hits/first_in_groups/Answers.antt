use Rattle.std.proofs.Common.{arith, refl}
use Rattle.sm_neverallow.specs.Hitting.{AllMiss}
use Rattle.sm_neverallow.proofs.Sifting.{one_more_place}
use Rattle.sm_neverallow.proofs.hits.first_in_groups.Goals as goal

pub loop-k-preserved : goal.loop-k-preserved
loop-k-preserved c =
    one_more_place c.args.rules.now c.args.places.now (AllMiss c.args.all.now c.args.first) c.loop-k.k
    c.index-rules-places.result (c.requires.places.inside c.loop-k.k (omega arith)) c.index-rules-places.is
    (c.if-is_hit.ensures.none refl) c.loop-k.invariant
