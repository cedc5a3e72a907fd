use Rattle.sm_questions.proofs.SingleAccess.{first_line, first_rule, no_line}
use Rattle.sm_questions.proofs.rule_laws.first_is_explained.Goals as goal

pub returns : goal.returns
returns c = record { first = first_rule; begins = first_line; none = no_line }
