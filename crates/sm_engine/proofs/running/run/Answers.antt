use Rattle.std.proofs.Common.{◌≡◌, ◌≢◌, ◌≤◌, ◌<◌, ◌+◌, ◌-◌, ℕ, List, length, take, arith, refl, sym, ◌∙◌}
use Rattle.std.proofs.Common.{inl, inr, true, false, ◌⊎◌, [], rules}
use Rattle.std.proofs.lemmas.List.{length-take-le}
use Rattle.std.proofs.lemmas.Result.{err_from_is_err_and}
use Rattle.std.specs.Io.KnownBytes.{Consumes}
use Rattle.std.specs.Prelude.{min}
use Rattle.sm_engine.specs.Counts.{greatest_count}
use Rattle.sm_engine.specs.declared.fault.Fault.TheVariants.{WriteFault, Memory}
use Rattle.sm_engine.proofs.ServeLemmas.{sofar_next, served_long, served_stop}
use Rattle.sm_engine.proofs.ServeLemmas.{served_at_end, served_over}
use Rattle.sm_engine.proofs.running.run.Goals as goal

-- The number of reads.
few : (old before now n : ℕ) → before ≡ min (old + n) greatest_count → now ≡ min (before + 1) greatest_count
    → now - old ≤ n + 1
few old before now n e f = omega arith

-- A read that gave something.
some : (n : ℕ) (buffer : List ℕ) → n ≤ length buffer → n ≢ 0 → 0 < length (take n buffer)
some n buffer within ne = omega (arith, length-take-le n buffer within)

pub returns-then-n-eq0-clause-served : goal.returns-then-n-eq0-clause-served
returns-then-n-eq0-clause-served g c =
    let none : Consumes _ _ [] = rw c.if-n-eq0.true at c.in-Ok.ensures.bytes.0 in
    served_at_end _ c.loop-reads.invariant.sofar
    (few _ _ _ _ c.loop-reads.invariant.reads c.in-Ok.ensures.calls) _ none _ c.write_ending.result
    c.write_ending.ensures.ok c.write_ending.ensures.front c.write_ending.ensures.fault

pub returns-in_err-answer_piece-clause-served : goal.returns-in_err-answer_piece-clause-served
returns-in_err-answer_piece-clause-served g c =
    let p = err_from_is_err_and c.from_residual.result c.from_residual.ensures.1 in
    let which : (c.in_err-answer_piece.field-0.0 ≡ WriteFault) ⊎ (c.in_err-answer_piece.field-0.0 ≡ Memory) =
    elim c.in_err-answer_piece.ensures.fault [ inl e ↦ inl (cc e) | inr e ↦ inr (cc e) ] in
    rw (p.1, p.2) (served_stop _ _ _ c.loop-reads.invariant.sofar
    (few _ _ _ _ c.loop-reads.invariant.reads c.in-Ok.ensures.calls) c.in-Ok.ensures.bytes.0
    c.in_err-answer_piece.ensures.err _ which)

pub returns-in_err-answer_piece-clause-too_many : goal.returns-in_err-answer_piece-clause-too_many
returns-in_err-answer_piece-clause-too_many g c =
    let p = err_from_is_err_and c.from_residual.result c.from_residual.ensures.1 in
    λ e. elim c.in_err-answer_piece.ensures.fault [ inl w ↦ cc (e, w, p.1, p.2) | inr w ↦ cc (e, w, p.1, p.2) ]

pub returns-then-is_over-clause-served : goal.returns-then-is_over-clause-served
returns-then-is_over-clause-served g c = served_over _ _ _ c.loop-reads.invariant.sofar
    (few _ _ _ _ c.loop-reads.invariant.reads c.in-Ok.ensures.calls) c.in-Ok.ensures.bytes.0
    c.in_ok-answer_piece.ensures.ok
    (sym c.is_over.ensures ∙ c.if-is_over.true)

pub returns-then-is_dead-clause-served : goal.returns-then-is_dead-clause-served
returns-then-is_dead-clause-served g c = served_long _ _ _ c.loop-reads.invariant.sofar
    (few _ _ _ _ c.loop-reads.invariant.reads c.in-Ok.ensures.calls) c.in-Ok.ensures.bytes.0
    c.in_ok-answer_piece.ensures.ok _
    c.in_ok-answer_piece.ensures.scan (c.if-is_dead.ensures.0 refl)

pub loop-reads-preserved : goal.loop-reads-preserved
loop-reads-preserved g c =
    let i = c.loop-reads.invariant in
    let within : c.in-Ok.n ≤ length c.read.new.buf = search rules in
    record {
      sofar = sofar_next _ _ i.sofar c.in-Ok.ensures.bytes.0
          c.in_ok-answer_piece.ensures.ok _
          c.in_ok-answer_piece.ensures.scan (λ h. let no : false ≡ true = c.if-is_dead.ensures.1 h in cc)
          (sym c.is_over.ensures ∙ c.if-is_over.false) (some _ _ within c.if-n-eq0.false);
      idle = c.clear.ensures;
      reads = omega (arith, c.in-Ok.ensures.calls, i.reads);
      reader_count = c.in-Ok.ensures.count ∙ i.reader_count;
      writer_count = c.in_ok-answer_piece.ensures.writer_count ∙ i.writer_count;
      audit_count = c.in_ok-answer_piece.ensures.audit_count ∙ i.audit_count;
      silent = λ s. c.answer_piece.ensures.unaudited s ∙ i.silent s;
    }
