use Rattle.std.proofs.Common.{◌≡◌, drop}
use Rattle.std.specs.List.{list_all}
use Rattle.sm_history.specs.Effects.{Effects}
use Rattle.sm_grants.specs.Rows.{Tracks}
use Rattle.sm_core.specs.Stands.{fits_among}
use Rattle.sm_core.proofs.counts.each_count_fits.Given as goal

-- Those that were asked have room.
abbrev pub invariant-loop-effect : goal.invariant-loop-effect
invariant-loop-effect l = (d : Effects) → Tracks d l.fn.grants
    → list_all (fits_among d l.fn.effects) l.fn.effects
    ≡ list_all (fits_among d l.fn.effects) (drop l.effect-index l.fn.effects)
