use Rattle.std.proofs.Common.{ap, ◌∙◌, Option}
use Rattle.sm_values.specs.declared.number.Node.{Node}
use Rattle.sm_history.specs.Histories.{found}
use Rattle.sm_replay.proofs.EnteringEvents.{add_step}
use Rattle.sm_replay.proofs.entering.enter_add.Goals as goal

pub returns : goal.returns
returns c d s tr done =
    add_step d c.args.client c.args.name.now c.in_ok-clone.field-0 c.args.obj c.args.allow_isolated c.args.dump
    c.found-node.result c.in-Added.notices c.list.result.now c.args.outcome.now c.args.tables.now c.add.new.tables
    c.tell_all.new.tables s tr done c.in-Added.is c.list.ensures
    (c.found-node.ensures ∙ ap (λ (o : Option Node). found o) (c.resolve.ensures d tr done.acts))
    c.in_ok-clone.ensures.cases c.in_ok-add.ensures c.in_ok-tell_all.ensures
