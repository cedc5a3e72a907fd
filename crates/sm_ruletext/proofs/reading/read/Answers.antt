use Rattle.std.proofs.Common.{subst}
use Rattle.sm_values.specs.Reading.{Gives}
use Rattle.sm_ruletext.specs.Grammar.{is_memory}
use Rattle.sm_ruletext.proofs.Faults.{fault_result}
use Rattle.sm_ruletext.proofs.Stated.{found_result, only}
use Rattle.sm_ruletext.proofs.reading.read.Goals as goal

pub returns-clause-found : goal.returns-clause-found
returns-clause-found c = found_result (λ v. v.items) c.exactly.result c.args.text.now c.exactly.ensures

pub returns-clause-only : goal.returns-clause-only
returns-clause-only c = λ sts short s.
    subst (λ x. Gives is_memory (λ v. v.items) c.exactly.result x) (only c.args.text.now sts short s) c.exactly.ensures

pub returns-clause-faults : goal.returns-clause-faults
returns-clause-faults c = fault_result (λ v. v.items) c.exactly.result c.args.text.now c.exactly.ensures
