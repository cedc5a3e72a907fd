use Rattle.std.proofs.Common.{refl}
use Rattle.sm_account.proofs.Staying.{both, met, met_slot}
use Rattle.sm_account.proofs.gathering.gather_administrator.Goals as goal

pub invariant_of-into : goal.invariant_of-into
invariant_of-into g c =
    let two = c.into_parts-second in
    let met_both = c.meet_admins.ensures in
    rw c.join.ensures (both c.into.inside.token.seen two.result.0.seen c.meet_admins.new.one.seen _ _ c.into.invariant
    two.ensures.parts met_both.one.grows.begins
    (met_slot two.result.0 two.result.0 c.meet_admins.new.other _ refl met_both.other))

pub returns-clause-told : goal.returns-clause-told
returns-clause-told g c = rw (c.join.ensures, c.into_parts-second.ensures.told, ← c.into.view_is) refl

pub returns-clause-goes_on : goal.returns-clause-goes_on
returns-clause-goes_on g c =
    rw (← c.into.view_is) (met c.into.inside.token c.meet_admins.new.one _ c.meet_admins.ensures.one)
