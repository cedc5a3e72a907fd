use Rattle.sm_account.proofs.Staying.{dead, lives, same, told_stay}
use Rattle.sm_account.proofs.gathering.bury.Goals as goal

pub returns-in-Err-clause-goes_on : goal.returns-in-Err-clause-goes_on
returns-in-Err-clause-goes_on g c =
    let slot = c.into_parts-slot.result.0 in
    rw (c.new.ensures, ← c.into_parts-slot.ensures.token) (same slot c.in-Err.seat c.in-Err.ensures.0)

pub new-requires-in-Ok-die : goal.new-requires-in-Ok-die
new-requires-in-Ok-die g c =
    let slot = c.into_parts-slot.result.0 in
    let seat = c.in-Ok-die.seat in
    let died = dead slot c.in-Ok.session seat c.in-Ok.ensures.0 c.in-Ok-die.ensures in
    told_stay slot.seen seat.seen _ c.into_parts-slot.ensures.parts died.begins

pub returns-in-Ok-die-clause-goes_on : goal.returns-in-Ok-die-clause-goes_on
returns-in-Ok-die-clause-goes_on g c =
    let slot = c.into_parts-slot.result.0 in
    rw (c.new-in-Ok-die.ensures, ← c.into_parts-slot.ensures.token)
    (dead slot c.in-Ok.session c.in-Ok-die.seat c.in-Ok.ensures.0 c.in-Ok-die.ensures)

pub new-requires-in-Err-die : goal.new-requires-in-Err-die
new-requires-in-Err-die g c =
    let slot = c.into_parts-slot.result.0 in
    let left = c.in-Err-die.session in
    let lived = lives slot c.in-Ok.session left _ c.in-Ok.ensures.0 c.in-Err-die.ensures.1 in
    rw c.of_session.ensures (told_stay slot.seen left.seen _ c.into_parts-slot.ensures.parts lived.begins)

pub returns-clause-goes_on : goal.returns-clause-goes_on
returns-clause-goes_on g c =
    let slot = c.into_parts-slot.result.0 in
    let lived = lives slot c.in-Ok.session c.in-Err-die.session _ c.in-Ok.ensures.0 c.in-Err-die.ensures.1 in
    rw (c.new-in-Err-die.ensures, c.of_session.ensures, ← c.into_parts-slot.ensures.token) lived
