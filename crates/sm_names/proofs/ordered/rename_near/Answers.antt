use Rattle.sm_names.proofs.OrderLemmas.{set_renamed}
use Rattle.sm_names.proofs.ordered.rename_near.Goals as goal

pub returns-then-order-near : goal.returns-then-order-near
returns-then-order-near c =
    set_renamed c.args.from c.args.to c.args.near c.args.order.now c.if-near-order.true c.if-order-near.true c.requires
