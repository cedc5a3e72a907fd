use Rattle.std.proofs.Common.{ap, sym, ◌∙◌, Option}
use Rattle.sm_values.specs.declared.number.Node.{Node}
use Rattle.sm_history.specs.declared.delivery.Delivery.{Delivery}
use Rattle.sm_history.specs.Histories.{found}
use Rattle.sm_replay.proofs.EnteringEvents.{call_step}
use Rattle.sm_replay.proofs.entering.enter_call.Goals as goal

pub returns : goal.returns
returns c d s tr done =
    let n = c.found-to.result in
    let hand = rw (c.list-2.ensures, c.list.ensures.value) at c.in_ok-hand_all.ensures in
    call_step d c.args.client c.args.handle c.args.payload.now c.args.refs.now n c.in-Sent.sent c.in_ok-clone.field-0
    c.in-Called.pid c.in-Called.uid c.in-Called.payload c.in-Called.given c.args.outcome.now c.args.tables.now
    c.hand_all.new.tables c.deliver.new.tables s tr done c.in-Sent.is
    (c.found-to.ensures ∙ ap (λ (o : Option Node). found o) (c.node_under.ensures d tr done.acts))
    (sym (ap (λ (v : Delivery). v.what) c.get.ensures) ∙ c.in-Called.is) c.in_ok-clone.ensures.cases hand
    c.in_ok-deliver.ensures
