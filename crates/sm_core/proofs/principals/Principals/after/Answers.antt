use Rattle.std.proofs.Common.{arith}
use Rattle.sm_core.specs.Stands.{StandPrincipals}
use Rattle.sm_core.proofs.ListSteps.{rest_from}
use Rattle.sm_core.proofs.Numbers.{sets_from}
use Rattle.sm_core.proofs.Viewing.{goes_on}
use Rattle.sm_core.proofs.principals.Principals.after.Goals as goal

pub follow-requires : goal.follow-requires
follow-requires c =
    let first = sets_from _ _ _ c.effect-item.is c.loop-effect-test.true in
    omega (arith, c.loop-effect.invariant.small, first)

pub loop-effect-preserved : goal.loop-effect-preserved
loop-effect-preserved c =
    let first = sets_from _ _ _ c.effect-item.is c.loop-effect-test.true in
    record {
      small = omega (arith, c.loop-effect.invariant.small, c.follow.ensures.version, first);
      stand = λ d sound s m. goes_on (λ e. StandPrincipals e c.loop-effect.principals)
          (λ e. StandPrincipals e c.follow.new.self) d c.args.effects.now _ _ _
          (rest_from _ _ _ c.effect-item.is c.loop-effect-test.true)
          c.in_ok-follow.ensures.stand (c.loop-effect.invariant.stand d sound s m);
    }
