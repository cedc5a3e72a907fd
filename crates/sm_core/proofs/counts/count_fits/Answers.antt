use Rattle.std.proofs.Common.{◌≤◌, arith}
use Rattle.sm_history.specs.Holdings.{refs_at}
use Rattle.sm_history.specs.declared.limits.TheConstants.{GREATEST}
use Rattle.sm_core.proofs.GrantCounts.{exact_fits}
use Rattle.sm_core.proofs.counts.count_fits.Goals as goal

pub returns-in-Gives : goal.returns-in-Gives
returns-in-Gives c d tr =
    let most : c.count-count.result ≤ GREATEST = let m = c.count-count.type_inv in omega (arith, m) in
    rw c.in-Gives.is (exact_fits c.in-Gives.client c.in-Gives.node c.args.effects.now c.count-count.result
    (refs_at d c.in-Gives.client c.in-Gives.node) c.times_given.result (c.count-count.ensures d tr) most
    c.times_given.ensures)
