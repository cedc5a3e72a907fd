use Rattle.std.proofs.Common.{◌≤◌, ◌+◌, drop, length}
use Rattle.sm_history.specs.Effects.{Effects}
use Rattle.sm_history.specs.Following.{MayAllApart}
use Rattle.sm_history.specs.Sound.{Sound}
use Rattle.sm_names.specs.Rows.{TracksRows}
use Rattle.sm_core.proofs.Viewing.{Going}
use Rattle.sm_core.proofs.listed.services_after.Given as goal

-- What is left has room, and the services are those of the effects so far.
abbrev pub invariant-loop-effect : goal.invariant-loop-effect
invariant-loop-effect l = record {
  room : length l.services.rows.items + length (drop l.effect-index l.fn.effects) ≤ l.services.rows.capacity;
  tracks : (d : Effects) → Sound d → TracksRows d l.fn.last.rows.items → MayAllApart d l.fn.effects
      → Going (λ e. TracksRows e l.services.rows.items) d l.fn.effects (drop l.effect-index l.fn.effects);
}
