use Rattle.std.proofs.Common.{◌<◌, ◌+◌, drop}
use Rattle.sm_history.specs.Effects.{Effects}
use Rattle.sm_history.specs.Following.{MayAllApart}
use Rattle.sm_history.specs.Sound.{Sound}
use Rattle.sm_history.specs.declared.limits.TheConstants.{GREATEST}
use Rattle.sm_core.specs.Stands.{StandPrincipals, sets_in}
use Rattle.sm_core.proofs.Viewing.{Going}
use Rattle.sm_core.proofs.principals.Principals.after.Given as goal

-- The version stays small over what is left, and the principals are those of the effects so far.
abbrev pub invariant-loop-effect : goal.invariant-loop-effect
invariant-loop-effect l = record {
  small : l.principals.version + sets_in (drop l.effect-index l.fn.effects) < GREATEST;
  stand : (d : Effects) → Sound d → StandPrincipals d l.fn.self → MayAllApart d l.fn.effects
      → Going (λ e. StandPrincipals e l.principals) d l.fn.effects (drop l.effect-index l.fn.effects);
}
