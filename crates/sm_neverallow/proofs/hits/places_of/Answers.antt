use Rattle.std.proofs.Common.{◌<◌, length, arith}
use Rattle.sm_neverallow.specs.Hitting.{Escapes}
use Rattle.sm_neverallow.proofs.Choosing.{chosen_more, chosen_same}
use Rattle.sm_neverallow.proofs.hits.places_of.Goals as goal
use Rattle.sm_neverallow.proofs.hits.places_of.Goals.{then-is_candidate+in_ok-push, else-is_candidate}

pub loop-place-preserved : goal.loop-place-preserved
loop-place-preserved c =
    let inside : c.loop-place.place < length c.args.rules.now = omega (arith, c.loop-place-test.true, c.requires.end) in
    elim c.if-is_candidate.branch [
      | then-is_candidate+in_ok-push w ↦ rw w.places-is (chosen_more c.args.rules.now c.args.set.0 c.loop-place.place
          (Escapes c.args.targets.now) c.loop-place.places.items _ c.index-rules-place.result w.in_ok-push.ensures.items
          inside c.index-rules-place.is (c.is_candidate.ensures.some w.if-is_candidate.true) c.loop-place.invariant)
      | else-is_candidate w ↦ rw w.places-is (chosen_same c.args.rules.now c.args.set.0 c.loop-place.place
          (Escapes c.args.targets.now) c.loop-place.places.items c.index-rules-place.result inside
          c.index-rules-place.is (c.is_candidate.ensures.none w.if-is_candidate.false) c.loop-place.invariant)
    ]
