use Rattle.std.proofs.Common.{◌<◌, refl, arith}
use Rattle.std.proofs.lemmas.List.{append-nil}
use Rattle.sm_types.specs.Names.{at}
use Rattle.sm_types.specs.Denoting.{types}
use Rattle.sm_questions.specs.Differences.{lost_perm}
use Rattle.sm_questions.proofs.Permissions.{held_perm}
use Rattle.sm_questions.proofs.lost.push_pair.Goals as goal
use Rattle.sm_questions.proofs.lost.push_pair.Goals.{then-is_lost+in_ok-push_lost, else-is_lost}

pub loop-bit-preserved : goal.loop-bit-preserved
unfolding lost_perm
loop-bit-preserved c =
    let names = types c.args.one.now.statements in
    let f = lost_perm c.args.sign c.args.one.now c.args.other.now (at names c.args.source) (at names c.args.target) in
    let lt : c.loop-bit.bit < 7 = omega arith in
    held_perm f c.loop-bit.bit c.args.held.now.items lt c.loop-bit.invariant (
    elim c.if-is_lost.branch [
      | then-is_lost+in_ok-push_lost w ↦ rw (
        ← c.is_lost.ensures,
        w.if-is_lost.true,
        w.held-is,
        ← c.type_name-from.ensures,
        ← c.type_name-to.ensures,
      ) w.in_ok-push_lost.ensures
      | else-is_lost w ↦ rw (← c.is_lost.ensures, w.if-is_lost.false, w.held-is, append-nil c.loop-bit.held.items) refl
    ])
