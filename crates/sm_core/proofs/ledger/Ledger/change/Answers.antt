use Rattle.sm_history.specs.Histories.{effects_of}
use Rattle.sm_core.proofs.GrantCounts.{may_done}
use Rattle.sm_core.proofs.Keeping.{kept_more}
use Rattle.sm_core.proofs.Small.{small_turns}
use Rattle.sm_core.proofs.ledger.Ledger.change.Goals as goal

pub count-requires-clause-few : goal.count-requires-clause-few
count-requires-clause-few c = small_turns _ _ _ _ c.args.entry.by c.self.invariant

pub invariant_of-self : goal.invariant_of-self
invariant_of-self c =
    let entry = c.args.entry in
    let xs = c.args.effects.now.items in
    let r = rw (← c.self.view_is) at c.requires in
    rw c.push.ensures (kept_more c.self.inside.places c.self.inside.journal.history c.self.inside.turns
    c.count.new.self c.self.inside.state c.apply_all.new.self entry xs c.self.invariant
    r.done r.sound c.count.ensures.counts c.count.ensures.admins r.effects
    (c.apply_all.ensures.stands (effects_of c.self.inside.journal.history) c.self.invariant.stands
    (may_done c.self.inside.places c.self.inside.journal.history entry xs
    c.self.invariant.stands.sound r.done r.may r.effects)))
