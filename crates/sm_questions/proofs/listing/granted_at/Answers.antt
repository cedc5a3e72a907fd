use Rattle.std.proofs.Common.{ℕ, sym, ◌∙◌}
use Rattle.sm_rules.specs.Keeping.{class_at, perm_at}
use Rattle.sm_policy.specs.Policy.{allowed_at}
use Rattle.sm_questions.proofs.Picked.{picked_none, picked_one, picked_other}
use Rattle.sm_questions.proofs.listing.granted_at.Goals as goal
use Rattle.sm_questions.proofs.listing.granted_at.Goals.{then-allows_at, else-allows_at}

pub loop-bit-init : goal.loop-bit-init
loop-bit-init c = picked_none (λ b. allowed_at c.args.policy.now c.args.source c.args.target (class_at b) (perm_at b))

pub loop-bit-preserved : goal.loop-bit-preserved
loop-bit-preserved c =
    let picks = λ (b : ℕ). allowed_at c.args.policy.now c.args.source c.args.target (class_at b) (perm_at b) in
    let asked = rw (c.class_at.ensures, c.perm_at.ensures) at c.allows_at.ensures in
    elim c.if-allows_at.branch [
      | then-allows_at w ↦ rw w.granted-is (picked_one picks c.loop-bit.granted w.with_bit-granted.result c.loop-bit.bit
          c.loop-bit.invariant (sym asked ∙ w.if-allows_at.true) w.with_bit-granted.ensures)
      | else-allows_at w ↦ rw w.granted-is (picked_other picks c.loop-bit.granted c.loop-bit.bit c.loop-bit.invariant
          (sym asked ∙ w.if-allows_at.false))
    ]
