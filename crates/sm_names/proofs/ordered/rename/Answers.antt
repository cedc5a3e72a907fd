use Rattle.std.proofs.Common.{get_or, arith}
use Rattle.std.proofs.lemmas.List.{get_or_default}
use Rattle.std.proofs.lemmas.List.Edits.{map_over_more}
use Rattle.sm_names.specs.Orders.{renamed}
use Rattle.sm_names.proofs.ordered.rename.Goals as goal

pub loop-i-preserved : goal.loop-i-preserved
loop-i-preserved c =
    let order = c.loop-i.order in
    let k = c.loop-i.i-index in
    rw c.replaced.ensures
    (map_over_more (renamed c.args.from c.args.to) c.args.order.now order k (get_or order k 0) c.loop-i-test.true
    c.loop-i.invariant (get_or_default order k 0 (get_or order k 0) (omega arith)))
