use Rattle.std.proofs.Common.{inr, rules}
use Rattle.sm_core.proofs.ledger.Ledger.judge_object.Goals as goal

pub returns-then-is_none : goal.returns-then-is_none
returns-then-is_none c old = inr (search rules)

pub returns-then-not-has_name_room : goal.returns-then-not-has_name_room
returns-then-not-has_name_room c old = inr (search rules)
