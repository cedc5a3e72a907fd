use Rattle.std.proofs.Common.{length}
use Rattle.sm_ruletext.specs.Statements.{statements_of}
use Rattle.sm_ruletext.proofs.Runs.{LeadsTo}
use Rattle.sm_ruletext.proofs.reading.all.Given as goal

abbrev pub invariant-statements : goal.invariant-statements
invariant-statements l = LeadsTo (statements_of l.fn.tokens) l.statements l.tokens

abbrev pub decreases-statements : goal.decreases-statements
decreases-statements l = length l.tokens
