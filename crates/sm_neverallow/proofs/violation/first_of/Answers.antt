use Rattle.std.proofs.Common.{arith}
use Rattle.sm_rules.specs.declared.kept.Kept.{Kept}
use Rattle.sm_neverallow.specs.Violating.{AreApart}
use Rattle.sm_neverallow.proofs.Meeting.{one_more, to_the_end}
use Rattle.sm_neverallow.proofs.violation.first_of.Goals as goal

pub loop-i-preserved : goal.loop-i-preserved
loop-i-preserved c =
    one_more c.args.allows.now (λ (allow : Kept). AreApart allow c.args.never.now c.args.count) c.loop-i.i
    c.index-allows-i.result (omega arith) c.index-allows-i.is c.in_default.ensures.none c.loop-i.invariant

pub returns-clause-none : goal.returns-clause-none
returns-clause-none c = to_the_end c.args.allows.now (λ (allow : Kept). AreApart allow c.args.never.now c.args.count)
    c.loop-i.i (omega arith) c.loop-i.invariant
