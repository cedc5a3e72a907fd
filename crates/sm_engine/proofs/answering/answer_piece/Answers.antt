use Rattle.std.proofs.Common.{◌≡◌, ℕ, List, ◌++◌, ◌∷◌, [], length, ◌∙◌, arith, rules, Result, Ok, Err, OnOk}
use Rattle.std.proofs.lemmas.Result.{on_err_weaker}
use Rattle.sm_wire.specs.declared.item.Item.{Item}
use Rattle.sm_engine.specs.Running.{Answered, Answers, IsSilent}
use Rattle.sm_engine.proofs.Results.{on_ok, on_err}
use Rattle.sm_engine.proofs.KnownLemmas.{Spilled-front, Spilled-none}
use Rattle.sm_engine.proofs.PieceLemmas.{taken_none, taken_one, taken_all}
use Rattle.sm_engine.proofs.RunLemmas.{going_answer, going_lost, going_spill, going_fail, going_fail_end, going_end}
use Rattle.sm_engine.proofs.answering.answer_piece.Goals as goal
use Rattle.sm_engine.proofs.answering.answer_piece.Goals.{then-is_empty, else-is_empty}

-- A silent machine leaves no audit lines.
unspoken : {S : Type 0} {answers : Answers S} {old new : S} {item : Item} {replies replies_new audit audit_new : List ℕ}
    → IsSilent answers → Answered answers old item replies replies_new audit audit_new new → audit ≡ [] → audit_new ≡ []
unspoken s a none = rw (s _ _ _ _ _ a.step, none) at a.audited

on_ok_both : {T E P Q R : Type 0} (r : Result T E) → (P → Q → R) → OnOk r P → OnOk r Q → OnOk r R
on_ok_both (Ok x) f p q = f p q
on_ok_both (Err e) f p q = tt

pub returns-in_err-start-clause-err : goal.returns-in_err-start-clause-err
returns-in_err-start-clause-err g c =
    let i = c.loop-start.invariant.1 in
    on_err c.from_residual.result (going_fail_end _ i.going i.short i.short_lines (Spilled-none _ _) (Spilled-none _ _)
    _ _ i.taken.items)

pub returns-in_err-answer-clause-err : goal.returns-in_err-answer-clause-err
returns-in_err-answer-clause-err g c =
    let i = c.loop-start.invariant.1 in
    let t = taken_one i.taken i.slot c.in_ok-start.ensures.ok c.in-Some.ensures.items in
    on_err c.from_residual-in_err-answer.result (going_lost _ i.going i.short i.short_lines c.in-Some.item _
    c.in_err-answer.ensures.err _ _ t.all)

pub returns-in_err-spill-clause-err : goal.returns-in_err-spill-clause-err
returns-in_err-spill-clause-err g c =
    let i = c.loop-start.invariant.1 in
    let t = taken_one i.taken i.slot c.in_ok-start.ensures.ok c.in-Some.ensures.items in
    let f = c.in_err-spill.ensures.front in
    on_err c.from_residual-in_err-spill.result (going_fail _ i.going i.short i.short_lines c.in-Some.item
    c.in_ok-answer.ensures.ok (Spilled-front _ _ _ f.0 f.1) (Spilled-none _ _) _ _ t.all)

pub returns-in_err-spill-2-clause-err : goal.returns-in_err-spill-2-clause-err
returns-in_err-spill-2-clause-err g c =
    let i = c.loop-start.invariant.1 in
    let t = taken_one i.taken i.slot c.in_ok-start.ensures.ok c.in-Some.ensures.items in
    let f = c.in_err-spill-2.ensures.front in
    let same : c.if-is_empty.machine ≡ c.answer.new.self =
    elim c.if-is_empty.branch [ then-is_empty w ↦ w.machine-is ∙ w.written.ensures | else-is_empty w ↦ w.machine-is ] in
    on_err c.from_residual-in_err-spill-2.result (rw same (going_fail _ i.going i.short i.short_lines c.in-Some.item
    c.in_ok-answer.ensures.ok c.in_ok-spill.ensures.ok (Spilled-front _ _ _ f.0 f.1) _ _ t.all))

pub loop-start-preserved-in_default : goal.loop-start-preserved-in_default
loop-start-preserved-in_default g c =
    let i = c.loop-start.invariant.1 in
    let none : length c.take_one.new.items.items ≡ 0 = search rules in
    let slot : c.pop.new.self.items ≡ [] = search rules in (
      c.loop-start.invariant.0,
      record {
        taken = taken_none i.taken i.slot c.in_ok-start.ensures.ok none;
        slot = slot;
        going = i.going;
        short = i.short;
        short_lines = i.short_lines;
        writer_count = i.writer_count;
        audit_count = i.audit_count;
        silent = i.silent;
      },
    )

pub loop-start-preserved : goal.loop-start-preserved
loop-start-preserved g c =
    let i = c.loop-start.invariant.1 in
    let t = taken_one i.taken i.slot c.in_ok-start.ensures.ok c.in-Some.ensures.items in
    let same : c.if-is_empty.machine ≡ c.answer.new.self =
    elim c.if-is_empty.branch
    [ then-is_empty w ↦ w.machine-is ∙ w.written.ensures | else-is_empty w ↦ w.machine-is ] in (
      c.loop-start.invariant.0 ++ c.in-Some.item ∷ [],
      record {
        taken = t.taken;
        slot = t.slot;
        going = rw same (going_spill (going_answer i.going c.in_ok-answer.ensures.ok)
            c.in_ok-spill.ensures.ok c.in_ok-spill-2.ensures.ok);
        short = omega (arith, c.in_ok-spill.ensures.short, c.hold_limit-limit.ensures);
        short_lines = omega (arith, c.in_ok-spill-2.ensures.short, c.hold_limit-limit.ensures);
        writer_count = c.in_ok-spill.ensures.count ∙ i.writer_count;
        audit_count = c.in_ok-spill-2.ensures.count ∙ i.audit_count;
        silent = λ s.
            let w = c.spill-in-loop-start.ensures.nothing (unspoken s c.in_ok-answer.ensures.ok (i.silent s).1) in
            (w.0 ∙ (i.silent s).0, w.1);
      },
    )

pub returns-in_err-spill-3-clause-err : goal.returns-in_err-spill-3-clause-err
returns-in_err-spill-3-clause-err g c =
    let i = c.loop-start.invariant.1 in
    let f = c.in_err-spill-3.ensures.front in
    on_err c.from_residual-in_err-spill-3.result (going_fail_end _ i.going i.short i.short_lines
    (Spilled-front _ _ _ f.0 f.1) (Spilled-none _ _) _ _ i.taken.items)

pub returns-clause-scan : goal.returns-clause-scan
returns-clause-scan g c =
    let i = c.loop-start.invariant.1 in
    on_ok c.spill-3.result (taken_all c.loop-start.start i.taken c.loop-start-test.false).0

pub returns-clause-ok : goal.returns-clause-ok
returns-clause-ok g c =
    let i = c.loop-start.invariant.1 in
    let s = c.in_ok-spill-3.ensures in
    let all = (taken_all c.loop-start.start i.taken c.loop-start-test.false).1 in
    rw c.written-2.ensures (on_ok_both c.spill-3.result (λ t short. going_end i.going s.ok s.short t short _ all)
    c.spill-3.ensures.ok c.spill-3.ensures.short)

pub returns-clause-err : goal.returns-clause-err
returns-clause-err g c =
    let i = c.loop-start.invariant.1 in
    rw c.written-2.ensures (on_err_weaker c.spill-3.result (λ f. going_fail_end _ i.going i.short i.short_lines
    c.in_ok-spill-3.ensures.ok (Spilled-front _ _ _ f.0 f.1) _ _ i.taken.items) c.spill-3.ensures.front)
