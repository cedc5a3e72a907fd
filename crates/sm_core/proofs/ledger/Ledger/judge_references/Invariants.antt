use Rattle.std.proofs.Common.{◌≡◌, drop}
use Rattle.arrayvec.specs.ArrayVec.{array_vec_len}
use Rattle.sm_history.specs.Histories.{effects_of}
use Rattle.sm_history.specs.Records.{moment_of}
use Rattle.sm_history.specs.Verdict.{all_pass_to_client}
use Rattle.sm_core.specs.Judging.{after_checks}
use Rattle.sm_core.proofs.CallChecks.{NamesOn}
use Rattle.sm_core.proofs.ledger.Ledger.judge_references.Given as goal

-- The references so far pass, and name these objects.
abbrev pub invariant-loop-obj : goal.invariant-loop-obj
invariant-loop-obj l =
    let m = moment_of l.self.book.history in
    let d = effects_of l.self.book.history in
    let c = l.row.id in
    record {
      passed : after_checks m l.initial.notes.items (all_pass_to_client d c l.receiver l.refs)
          ≡ after_checks m l.notes.items (all_pass_to_client d c l.receiver (drop l.obj-index l.refs));
      names : NamesOn d c l.refs (drop l.obj-index l.refs) l.named.items;
      many : array_vec_len l.named ≡ l.obj-index;
    }
