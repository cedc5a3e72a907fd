use Rattle.std.proofs.Common.{◌<◌, ◌∙◌, length, refl, sym, arith}
use Rattle.std.proofs.lemmas.List.{append-nil}
use Rattle.sm_types.specs.Names.{at}
use Rattle.sm_types.specs.Denoting.{types}
use Rattle.sm_questions.specs.Differences.{lost_pair}
use Rattle.sm_questions.proofs.Granted.{kept_lost, lost_next}
use Rattle.sm_questions.proofs.lost.push_rest.Goals as goal
use Rattle.sm_questions.proofs.lost.push_rest.Goals.{then-not-is_kept+in_ok-push_pair, else-not-is_kept}

pub loop-target-preserved : goal.loop-target-preserved
loop-target-preserved c =
    let names = types c.args.one.now.statements in
    let lt : c.loop-target.target < length names = omega (arith, c.type_count-target-end.ensures) in
    lost_next (lost_pair c.args.sign c.args.one.now c.args.other.now (at names c.args.source)) names
    c.loop-target.target c.args.held.now.items lt c.loop-target.invariant (
    elim c.if-not-is_kept.branch [
      | then-not-is_kept+in_ok-push_pair w ↦ rw w.held-is w.in_ok-push_pair.ensures
      | else-not-is_kept w ↦
          let some = rw (c.requires.numbers, c.from.ensures) at c.in_ok-there.ensures.some in
          let none = rw (c.requires.numbers, c.from.ensures) at c.in_ok-there.ensures.none in
          let kept = rw (
            c.requires.numbers,
            c.from-in-loop-target.ensures,
            c.deref.ensures.value,
            c.deref-in-loop-target.ensures.value,
          ) at
          (sym c.is_kept.ensures ∙ w.if-not-is_kept.false) in
          let nothing = kept_lost c.args.sign c.args.one.now c.args.other.now c.in_ok-here.here.items
          c.in_ok-there.there.items c.args.source c.loop-target.target c.requires.source lt
          (c.in_ok-here.ensures.allowed c.requires.source) some none kept in
          rw (w.held-is, nothing, append-nil c.loop-target.held.items) refl
    ])
