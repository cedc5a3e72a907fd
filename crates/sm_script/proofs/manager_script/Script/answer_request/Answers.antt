use Rattle.std.proofs.Common.{◌≡◌, Some, Result, OnErr, refl, sym}
use Rattle.sm_wire.specs.declared.item.Item.TheVariants.{Asked}
use Rattle.sm_wire.specs.declared.request.Request.{Request}
use Rattle.sm_wire.specs.declared.request.Request.TheVariants.{Hello, Change, Look, Seal}
use Rattle.sm_wire.specs.declared.telling.Telling.TheVariants.{Whole}
use Rattle.sm_engine.specs.Running.{GaveUp}
use Rattle.sm_script.specs.Answering.{ScriptAnswers, Recorded, recorded}
use Rattle.sm_script.proofs.Answered.{told_request, told_look, unasked_request, denials_request, seal_request}
use Rattle.sm_script.proofs.Answered.{lost_request, lost_look, lost_seal, kept_request}
use Rattle.sm_script.proofs.manager_script.Script.answer_request.Goals as goal
use Rattle.sm_script.proofs.manager_script.Script.answer_request.Goals.{in-Hello, in-Change-Some-default}
use Rattle.sm_script.proofs.manager_script.Script.answer_request.Goals.{in-Change-None-default, in-Look, in-Reload}
use Rattle.sm_script.proofs.manager_script.Script.answer_request.Goals.{in-Denials, in-Seal}

-- Each request was judged, and its texts were added.
pub returns-clause-ok : goal.returns-clause-ok
returns-clause-ok c = elim c.match-request.branch [
  | in-Hello w ↦ rw (w.result-is, w.replies-is, w.audit-is, w.self-inside-is, w.in-Hello.is, ← c.self.view_is)
      (told_request w.answer_hello.result _ _ _ Whole _ _ _ _ (λ r. refl) w.answer_hello.ensures.ok)
  | in-Change-Some-default w ↦ rw (
    w.result-is,
    w.replies-is,
    w.audit-is,
    w.self-inside-is,
    w.in-Change-Some-default.is,
    w.in-Change-Some-default.field-0-is,
    ← c.self.view_is,
  ) (told_request w.answer_event.result _ _ _ c.telling-telling.result _ _ _ _
      (λ r. rw w.in-Change-Some-default.is at (c.telling-telling.ensures r)) w.answer_event.ensures.ok)
  | in-Change-None-default w ↦ rw (
    w.result-is,
    w.replies-is,
    w.audit-is,
    w.self-inside-is,
    w.in-Change-None-default.is,
    w.in-Change-None-default.field-0-is,
    ← c.self.view_is,
  ) (unasked_request w.answer_nobody.result _ _ _ _ _ tt w.answer_nobody.ensures)
  | in-Look w ↦ rw (w.result-is, w.replies-is, w.audit-is, w.self-inside-is, w.in-Look.is, ← c.self.view_is)
      (told_look w.answer_query.result _ _ _ _ _ _ _ _ w.answer_query.ensures.ok)
  | in-Reload w ↦ rw (w.result-is, w.replies-is, w.audit-is, w.self-inside-is, w.in-Reload.is, ← c.self.view_is)
      (unasked_request w.answer_unasked.result _ _ _ _ _ tt w.answer_unasked.ensures)
  | in-Denials w ↦ rw (w.result-is, w.replies-is, w.audit-is, w.self-inside-is, w.in-Denials.is, ← c.self.view_is)
      (denials_request w.answer_denials.result _ _ _ _ w.answer_denials.ensures)
  | in-Seal w ↦ rw (w.result-is, w.replies-is, w.audit-is, w.self-inside-is, w.in-Seal.is, ← c.self.view_is)
      (seal_request w.answer_seal.result _ _ _ _ _ w.answer_seal.ensures.ok)
]

-- The same of equal parts.
carried : {T E : Type 0} (r r' : Result T E) (s s' m m' : Recorded) (q q' : Request) → r ≡ r' → s ≡ s' → m ≡ m'
    → q ≡ q' → OnErr r' (GaveUp ScriptAnswers s' (Asked q') m') → OnErr r (GaveUp ScriptAnswers s (Asked q) m)
carried r r' s s' m m' q q' e f g h p = rw (e, f, g, h) p

-- Each request was judged, and its texts were lost.
pub returns-clause-err : goal.returns-clause-err
returns-clause-err c =
    let old = recorded c.self.inside.manager in
    let same = sym c.self.view_is in
    elim c.match-request.branch [
      | in-Hello w ↦ let new = recorded w.answer_hello.new.manager in
          let request = Hello w.in-Hello.who in
          carried _ w.answer_hello.result _ old _ new _ request w.result-is same (rw w.self-inside-is refl)
          w.in-Hello.is (lost_request w.answer_hello.result old new request w.answer_hello.ensures.err)
      | in-Change-Some-default w ↦ let new = recorded w.answer_event.new.manager in
          let i = w.in-Change-Some-default in
          let request = Change (Some i.client) i.event in
          carried _ w.answer_event.result _ old _ new _ request w.result-is same (rw w.self-inside-is refl)
          (rw i.field-0-is at i.is) (lost_request w.answer_event.result old new request w.answer_event.ensures.err)
      | in-Change-None-default w ↦ carried _ w.answer_nobody.result _ old _ old _ _ w.result-is same
          (rw w.self-inside-is refl) refl (kept_request w.answer_nobody.result old c.args.request)
      | in-Look w ↦ let request = Look w.in-Look.client w.in-Look.query in
          carried _ w.answer_query.result _ old _ old _ request w.result-is same (rw w.self-inside-is refl)
          w.in-Look.is
          (lost_look w.answer_query.result old old w.in-Look.client w.in-Look.query w.answer_query.ensures.err)
      | in-Reload w ↦ carried _ w.answer_unasked.result _ old _ old _ _ w.result-is same
          (rw w.self-inside-is refl) refl (kept_request w.answer_unasked.result old c.args.request)
      | in-Denials w ↦ carried _ w.answer_denials.result _ old _ old _ _ w.result-is same
          (rw w.self-inside-is refl) refl (kept_request w.answer_denials.result old c.args.request)
      | in-Seal w ↦ let new = recorded w.answer_seal.new.manager in
          carried _ w.answer_seal.result _ old _ new _ Seal w.result-is same (rw w.self-inside-is refl) w.in-Seal.is
          (lost_seal w.answer_seal.result old new w.answer_seal.ensures.err)
    ]
