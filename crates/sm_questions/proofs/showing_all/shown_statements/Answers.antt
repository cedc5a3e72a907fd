use Rattle.std.proofs.Common.{◌≡◌, ◌<◌, [], length, slice_get, Some, sym}
use Rattle.std.proofs.lemmas.Option.{get_or_from_slice_get, slice_get-get_or}
use Rattle.sm_questions.specs.Shown.{shown_statement}
use Rattle.sm_questions.proofs.Buffering.{held_step}
use Rattle.sm_questions.proofs.showing_all.shown_statements.Goals as goal
use Rattle.sm_questions.proofs.showing_all.shown_statements.Goals.{in-Some+in_ok-push_statement-in-Some, in-None}

pub loop-i-preserved : goal.loop-i-preserved
loop-i-preserved c =
    let keys = c.args.numbers.now.keys in
    let lt : c.loop-i.i < length keys = rw c.len-i-end.ensures.len at c.loop-i-test.true in
    elim c.match-get_index.branch [
      | in-Some+in_ok-push_statement-in-Some w ↦ (let there : slice_get keys c.loop-i.i ≡ Some w.in-Some.number.now =
          sym (rw w.in-Some.is at c.get_index.ensures.key) in
          rw w.shown-is (held_step (shown_statement c.args.path.now c.args.text.now) keys c.loop-i.i 0 [] lt
          c.loop-i.invariant (rw (get_or_from_slice_get keys c.loop-i.i w.in-Some.number.now 0 there)
          w.in_ok-push_statement-in-Some.ensures)))
      | in-None w ↦ (let none = rw w.in-None.is at c.get_index.ensures.key in
          let some = slice_get-get_or keys c.loop-i.i 0 lt in absurd cc)
    ]
