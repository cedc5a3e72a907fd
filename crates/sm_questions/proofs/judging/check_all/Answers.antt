use Rattle.std.proofs.Common.{◌≡◌, ◌∙◌, true, false, sym}
use Rattle.sm_engine.proofs.Results.{on_err}
use Rattle.sm_questions.specs.Judged.{is_broken}
use Rattle.sm_questions.proofs.Verdicts.{judged_broken, judged_other}
use Rattle.sm_questions.proofs.judging.check_all.Goals as goal
use Rattle.sm_questions.proofs.judging.check_all.Goals.{then-is_broken+in_ok-put_all, else-is_broken+in_ok-write_whole}

pub returns-in_err-put_all-clause-front : goal.returns-in_err-put_all-clause-front
returns-in_err-put_all-clause-front g c =
    let told : is_broken c.in_ok-verdict.verdict.refusal ≡ true = sym c.is_broken.ensures ∙ c.if-is_broken.true in
    on_err c.from_residual-in_err-put_all.result
    (rw (judged_broken c.args.rules.now c.args.contexts.now (rw c.in_ok-verdict.ensures.refusal at told))
    c.in_err-put_all.ensures.front)

pub returns-in_err-write_whole-clause-front : goal.returns-in_err-write_whole-clause-front
returns-in_err-write_whole-clause-front g c =
    let told : is_broken c.in_ok-verdict.verdict.refusal ≡ false = sym c.is_broken.ensures ∙ c.if-is_broken.false in
    let line = rw (c.deref.ensures.value, c.in_ok-verdict.ensures.line) at c.in_err-write_whole.ensures.front in
    on_err c.from_residual-in_err-write_whole.result
    (rw (judged_other c.args.rules.now c.args.contexts.now (rw c.in_ok-verdict.ensures.refusal at told)) line)

pub returns-clause-written : goal.returns-clause-written
returns-clause-written g c =
    elim c.if-is_broken.branch [
      | then-is_broken+in_ok-put_all w ↦ (let told : is_broken c.in_ok-verdict.verdict.refusal ≡ true =
          sym c.is_broken.ensures ∙ w.if-is_broken.true in
          rw (
            w.writer-is,
            judged_broken c.args.rules.now c.args.contexts.now
                (rw c.in_ok-verdict.ensures.refusal at told),
          ) w.in_ok-put_all.ensures.written)
      | else-is_broken+in_ok-write_whole w ↦ (let told : is_broken c.in_ok-verdict.verdict.refusal ≡ false =
          sym c.is_broken.ensures ∙ w.if-is_broken.false in
          rw (
            w.writer-is,
            judged_other c.args.rules.now c.args.contexts.now
                (rw c.in_ok-verdict.ensures.refusal at told),
          )
          (rw (w.deref.ensures.value, c.in_ok-verdict.ensures.line) at w.in_ok-write_whole.ensures.ok))
    ]
