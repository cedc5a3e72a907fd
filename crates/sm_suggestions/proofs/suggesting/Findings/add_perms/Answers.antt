use Rattle.std.proofs.Common.{◌<◌, arith}
use Rattle.sm_suggestions.specs.Suggesting.{perm_allowed, perm_suggestions}
use Rattle.sm_suggestions.proofs.Accesses.{allowed_more, lines_more}
use Rattle.sm_suggestions.proofs.suggesting.Findings.add_perms.Goals as goal

pub loop-bit-preserved : goal.loop-bit-preserved
loop-bit-preserved c =
    let lt : c.loop-bit.bit < 7 = omega arith in record {
      rulings = c.in_ok-add_perm.ensures.rulings;
      tally = lines_more (perm_suggestions c.args.policy.now c.args.denial.now) c.loop-bit.bit c.args.self.now.tally
          c.loop-bit.self.tally c.add_perm.new.self.tally lt c.loop-bit.invariant.tally c.in_ok-add_perm.ensures.tally;
      few = omega (arith, c.loop-bit.invariant.few, c.in_ok-add_perm.ensures.few);
      allowed = allowed_more (perm_allowed c.args.policy.now c.args.denial.now) c.loop-bit.bit
          c.args.self.now.all_allowed c.loop-bit.self.all_allowed c.add_perm.new.self.all_allowed lt
          c.loop-bit.invariant.allowed c.in_ok-add_perm.ensures.allowed;
      skipped = cc;
    }
