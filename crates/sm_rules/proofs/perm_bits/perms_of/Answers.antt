use Rattle.sm_rules.specs.Access.{gives}
use Rattle.sm_rules.specs.Keeping.{class_at, perm_at}
use Rattle.sm_bits.proofs.ByteBits.{told_none, told_more}
use Rattle.sm_rules.proofs.perm_bits.perms_of.Goals as goal

pub loop-bit-init : goal.loop-bit-init
loop-bit-init c = rw (c.empty-perms.ensures tt) (told_none (λ b. gives (class_at b) (perm_at b) c.args.rule.now))

pub loop-bit-preserved : goal.loop-bit-preserved
loop-bit-preserved c = told_more c.loop-bit.perms.0 c.with_granted-perms.result.0
    (λ b. gives (class_at b) (perm_at b) c.args.rule.now) c.loop-bit.bit c.with_granted-perms.ensures
    c.loop-bit.invariant
