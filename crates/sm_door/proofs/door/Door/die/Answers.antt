use Rattle.std.proofs.Common.{rules, ◌≡◌, ◌∙◌, subst, ap}
use Rattle.sm_history.specs.declared.event.Event.TheVariants.{Die}
use Rattle.sm_history.specs.declared.outcome.Outcome.TheVariants.{Died}
use Rattle.sm_history.specs.declared.reply.Reply.TheVariants.{Done}
use Rattle.sm_history.specs.Promises.{Submitted, Accepted}
use Rattle.sm_history.specs.Tokens.{Knows, token}
use Rattle.sm_history.proofs.SubmittedReplies.{death_answered}
use Rattle.sm_door.proofs.door.Door.die.Goals as goal

pub died-requires : goal.died-requires
died-requires g c =
    death_answered c.me.inside.actor c.act-reply.new.me c.me.inside.client c.act-reply.result.0 c.me.invariant
    c.act-reply.ensures.submitted

pub returns-in-None : goal.returns-in-None
returns-in-None g c =
    let old = c.me.inside.actor in
    let new = c.act-reply.new.me in
    let is : c.act-reply.result.0 ≡ Done Died = search rules in
    let a : Accepted old new Die Died = subst (λ r. Submitted old new Die r) is c.act-reply.ensures.submitted in
    let by : new.by ≡ c.args.me.by = c.act-reply.ensures.by ∙ ap (λ (k : Knows). k.by) c.me.view_is in
    let seat : new ≡ token c.args.me.by c.into_seat.result.seen c.into_seat.result.reads = search rules in
    subst (λ (z : Knows × Knows). Accepted z.0 z.1 Die Died) (λ i. (c.me.view_is i, seat i)) a
