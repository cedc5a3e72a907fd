use Rattle.std.proofs.Common.{arith}
use Rattle.std.proofs.lemmas.Grind.{common_steps}
use Rattle.sm_core.proofs.GrantCounts.{counts_follow}
use Rattle.sm_core.proofs.Small.{small_length}
use Rattle.sm_core.proofs.ledger.Ledger.has_place.Goals as goal

pub history_length-length-requires : goal.history_length-length-requires
history_length-length-requires c = small_length _ _ _ _ c.self.invariant

pub returns-then-kept-length : goal.returns-then-kept-length
returns-then-kept-length c =
    let k = c.self.invariant in
    let r = rw (← c.self.view_is) at c.requires in
    let counts = counts_follow _ c.self.inside.journal.history _ c.args.event.now _ _ c.args.effects.now k.lawful
    r.effects r.may c.is_death.ensures c.if-is_death.false (c.counts_fit.ensures _ k.stands.grants) in
    rw (← c.self.view_is) (grind (arith, common_steps, counts))
