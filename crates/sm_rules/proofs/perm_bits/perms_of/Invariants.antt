use Rattle.sm_rules.specs.Access.{gives}
use Rattle.sm_rules.specs.Keeping.{class_at, perm_at}
use Rattle.sm_bits.proofs.ByteBits.{Told}
use Rattle.sm_rules.proofs.perm_bits.perms_of.Given as goal

abbrev pub invariant-loop-bit : goal.invariant-loop-bit
invariant-loop-bit l = Told l.perms.0 (λ b. gives (class_at b) (perm_at b) l.rule) l.bit
