use Rattle.sm_rules.specs.Keeping.{class_at, perm_at}
use Rattle.sm_policy.specs.Policy.{allowed_at}
use Rattle.sm_questions.proofs.Picked.{ArePicked}
use Rattle.sm_questions.proofs.listing.granted_at.Given as goal

abbrev pub invariant-loop-bit : goal.invariant-loop-bit
invariant-loop-bit l = ArePicked (λ b. allowed_at l.policy l.source l.target (class_at b) (perm_at b)) l.bit l.granted
