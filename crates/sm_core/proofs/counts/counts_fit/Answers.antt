use Rattle.std.proofs.Common.{sym}
use Rattle.sm_core.proofs.GrantCounts.{bound_fits}
use Rattle.sm_core.proofs.counts.counts_fit.Goals as goal

pub returns-then-count_bound-effects : goal.returns-then-count_bound-effects
returns-then-count_bound-effects c d tr =
    sym (bound_fits d c.args.effects.now c.count_bound.result (c.count_bound.ensures d tr)
    c.if-count_bound-effects.true)
