use Rattle.std.proofs.Common.{arith}
use Rattle.sm_names.specs.Rows.{TracksRows}
use Rattle.sm_core.proofs.ListSteps.{rest_from}
use Rattle.sm_core.proofs.Viewing.{goes_on}
use Rattle.sm_core.proofs.listed.services_after.Goals as goal

pub loop-effect-preserved : goal.loop-effect-preserved
loop-effect-preserved c =
    let left = rest_from _ _ _ c.effect-item.is c.loop-effect-test.true in
    record {
      room = let r = rw left at c.loop-effect.invariant.room in c.follow.ensures.left _ (omega (arith, r));
      tracks = λ d s tr m. goes_on (λ e. TracksRows e c.loop-effect.services.rows.items)
          (λ e. TracksRows e c.follow.new.services.rows.items) d c.args.effects.now _ _ _ left
          c.in_ok-follow.ensures.tracks (c.loop-effect.invariant.tracks d s tr m);
    }
