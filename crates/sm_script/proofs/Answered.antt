-- An item's answer, from what was judged and what was added to the texts.
use Rattle.std.proofs.Common.{◌≡◌, ◌⊎◌, List, ℕ, ◌++◌, [], Option, Some, None, Result, Ok, Err}
use Rattle.std.proofs.Common.{ap, inl, inr, refl, sym}
use Rattle.std.specs.Prelude.{OnOk, OnErr, codes}
use Rattle.sm_history.specs.declared.refusal.Refusal.TheVariants.{Memory}
use Rattle.sm_history.specs.declared.reply.Reply.{Reply}
use Rattle.sm_history.specs.declared.reply.Reply.TheVariants.{Refused}
use Rattle.sm_wire.specs.declared.request.Request.{Request}
use Rattle.sm_wire.specs.declared.request.Request.TheVariants.{Denials, Look, Seal}
use Rattle.sm_wire.specs.declared.item.Item.TheVariants.{Asked, Policy as OfPolicy}
use Rattle.sm_wire.specs.Texts.{Texts}
use Rattle.sm_values.specs.declared.number.ClientId.{ClientId}
use Rattle.sm_policy.specs.Policy.{Policy}
use Rattle.sm_policy.specs.Preparing.{is_memory, prepared}
use Rattle.sm_policy.specs.declared.fault.PolicyFault.{PolicyFault}
use Rattle.sm_values.specs.Reading.{Fails}
use Rattle.std.proofs.lemmas.List.{append-nil}
use Rattle.sm_history.specs.declared.by.By.TheVariants.{Admin}
use Rattle.sm_history.specs.declared.event.Event.TheVariants.{Reload}
use Rattle.sm_history.specs.declared.query.Query.{Query}
use Rattle.sm_history.specs.declared.records.Record.{Record}
use Rattle.sm_history.specs.Told.{told}
use Rattle.std.specs.List.{flat_map}
use Rattle.sm_audit.specs.AuditLines.{audit_line}
use Rattle.sm_wire.specs.declared.telling.Telling.{Telling}
use Rattle.sm_wire.specs.declared.telling.Telling.TheVariants.{Whole}
use Rattle.sm_wire.specs.Replies.{denials_text, policy_refused_text, told_text, visible_reply, told_in}
use Rattle.sm_engine.specs.Running.{Answered, GaveUp}
use Rattle.sm_script.specs.Answering.{ScriptAnswers, AnswersNow, AnswersQuery, IsUnasked, Judges, Recorded, SealsNow}
use Rattle.sm_script.specs.Answering.{Told, asker_of, the_administrator}

-- A request was judged, and its texts were added.
pub told_request : {T E : Type 0} (result : Result T E) (old new : Recorded) (request : Request) (telling : Telling)
    (replies replies_new audit audit_new : List ℕ)
    → ((reply : Reply) → visible_reply request reply ≡ told_in telling reply)
    → OnOk result ((reply : Reply) × (noted : List Record) × Judges old request reply noted new
    × Told telling reply noted replies replies_new audit audit_new)
    → OnOk result (Answered ScriptAnswers old (Asked request) replies replies_new audit audit_new new)
told_request (Ok x) old new request telling replies replies_new audit audit_new tells found = record {
  reply = told_text (told_in telling found.0);
  lines = flat_map audit_line found.1;
  step = inl (found.0, found.1, found.2, ap told_text (sym (tells found.0)), refl);
  replied = found.3.replied;
  audited = found.3.audited;
}
told_request (Err e) old new request telling replies replies_new audit audit_new tells found = found

-- A request was judged, and its texts were lost.
pub lost_request : {T E : Type 0} (result : Result T E) (old new : Recorded) (request : Request)
    → OnErr result ((reply : Reply) × (noted : List Record) × Judges old request reply noted new)
    → OnErr result (GaveUp ScriptAnswers old (Asked request) new)
lost_request (Ok x) old new request found = found
lost_request (Err e) old new request found = inr (
  told_text (visible_reply request found.0),
  flat_map audit_line found.1,
  inl (found.0, found.1, found.2, refl, refl),
)

-- The same of a look, whoever asks.
pub told_look : {T E : Type 0} (result : Result T E) (old new : Recorded) (who : Option ClientId) (query : Query)
    (replies replies_new audit audit_new : List ℕ)
    → OnOk result ((reply : Reply) × (noted : List Record) × AnswersQuery old (asker_of who) query reply noted new
    × Told Whole reply noted replies replies_new audit audit_new)
    → OnOk result (Answered ScriptAnswers old (Asked (Look who query)) replies replies_new audit audit_new new)
told_look result old new (Some client) query replies replies_new audit audit_new found =
    told_request result old new (Look (Some client) query) Whole replies replies_new audit audit_new (λ r. refl) found
told_look result old new None query replies replies_new audit audit_new found =
    told_request result old new (Look None query) Whole replies replies_new audit audit_new (λ r. refl) found

pub lost_look : {T E : Type 0} (result : Result T E) (old new : Recorded) (who : Option ClientId) (query : Query)
    → OnErr result ((reply : Reply) × (noted : List Record) × AnswersQuery old (asker_of who) query reply noted new)
    → OnErr result (GaveUp ScriptAnswers old (Asked (Look who query)) new)
lost_look result old new (Some client) query found = lost_request result old new (Look (Some client) query) found
lost_look result old new None query found = lost_request result old new (Look None query) found

-- No line of a script asks this.
pub unasked_request : {T E : Type 0} (result : Result T E) (old : Recorded) (request : Request)
    (replies replies_new audit : List ℕ) → IsUnasked request
    → OnOk result (replies_new ≡ replies ++ codes "malformed\n")
    → OnOk result (Answered ScriptAnswers old (Asked request) replies replies_new audit audit old)
unasked_request (Ok x) old request replies replies_new audit none replied = record {
  reply = codes "malformed\n";
  lines = [];
  step = inr (inr (none, refl, refl, refl));
  replied = replied;
  audited = sym (append-nil audit);
}
unasked_request (Err e) old request replies replies_new audit none replied = replied

-- The last denials were returned, or an allocation failed.
pub denials_request : {T E : Type 0} (result : Result T E) (old : Recorded) (replies replies_new audit : List ℕ)
    → OnOk result ((replies_new ≡ replies ++ denials_text old.ring)
    ⊎ (replies_new ≡ replies ++ told_text (Refused Memory)))
    → OnOk result (Answered ScriptAnswers old (Asked Denials) replies replies_new audit audit old)
denials_request (Ok x) old replies replies_new audit (inl replied) = record {
  reply = denials_text old.ring;
  lines = [];
  step = inr (inl (refl, refl, refl, refl));
  replied = replied;
  audited = sym (append-nil audit);
}
denials_request (Ok x) old replies replies_new audit (inr replied) = record {
  reply = told_text (Refused Memory);
  lines = [];
  step = inl (Refused Memory, [], (refl, refl, refl), refl, refl);
  replied = replied;
  audited = sym (append-nil audit);
}
denials_request (Err e) old replies replies_new audit found = found

-- The open segment was to be closed, and the answer was written.
pub seal_request : {T E : Type 0} (result : Result T E) (old new : Recorded) (replies replies_new audit : List ℕ)
    → OnOk result ((reply : Reply) × SealsNow old reply new × (replies_new ≡ replies ++ told_text reply))
    → OnOk result (Answered ScriptAnswers old (Asked Seal) replies replies_new audit audit new)
seal_request (Ok x) old new replies replies_new audit found = record {
  reply = told_text found.0;
  lines = [];
  step = inl (found.0, [], (found.1, refl), refl, refl);
  replied = found.2;
  audited = sym (append-nil audit);
}
seal_request (Err e) old new replies replies_new audit found = found

-- It was to be closed, and the answer was lost.
pub lost_seal : {T E : Type 0} (result : Result T E) (old new : Recorded)
    → OnErr result ((reply : Reply) × SealsNow old reply new) → OnErr result (GaveUp ScriptAnswers old (Asked Seal) new)
lost_seal (Ok x) old new found = found
lost_seal (Err e) old new found = inr (told_text found.0, [], inl (found.0, [], (found.1, refl), refl, refl))

-- What changed nothing gave up.
pub kept_request : {T E : Type 0} (result : Result T E) (old : Recorded) (request : Request)
    → OnErr result (GaveUp ScriptAnswers old (Asked request) old)
kept_request (Ok x) old request = tt
kept_request (Err e) old request = inl refl

reloads : (old new : Recorded) (texts : Texts) (policy : Policy) (reply : Reply) (noted : List Record)
    → prepared texts.rules texts.contexts ≡ Ok policy
    → AnswersNow old (Admin the_administrator) (Reload texts.expected policy) reply noted new
    → ScriptAnswers old (OfPolicy texts) (told_text (told (Reload texts.expected policy) reply))
    (flat_map audit_line noted) new
reloads old new texts policy reply noted reads judged = inl (record {
  policy = policy;
  reads = reads;
  reply = reply;
  noted = noted;
  judged = judged;
  written = refl;
  audited = refl;
})

-- The administrator replaces the policy, and the texts were lost.
pub reload_lost : {T E : Type 0} (result : Result T E) (old new : Recorded) (texts : Texts) (policy : Policy)
    (expected : ℕ) → prepared texts.rules texts.contexts ≡ Ok policy → expected ≡ texts.expected
    → OnErr result ((reply : Reply) × (noted : List Record)
    × AnswersNow old (Admin the_administrator) (Reload expected policy) reply noted new)
    → OnErr result (GaveUp ScriptAnswers old (OfPolicy texts) new)
reload_lost (Ok x) old new texts policy expected reads is found = found
reload_lost (Err e) old new texts policy expected reads is found = inr (
  told_text found.0,
  flat_map audit_line found.1,
  reloads old new texts policy found.0 found.1 reads (rw is at found.2),
)

-- The answer where the texts of a policy are refused.
pub refused_answer : {T E : Type 0} (result : Result T E) (old : Recorded) (texts : Texts) (fault : PolicyFault)
    (replies replies_new audit : List ℕ) → Fails is_memory fault (prepared texts.rules texts.contexts)
    → OnOk result (replies_new ≡ replies ++ policy_refused_text fault)
    → OnOk result (Answered ScriptAnswers old (OfPolicy texts) replies replies_new audit audit old)
refused_answer (Ok x) old texts fault replies replies_new audit fails replied = record {
  reply = policy_refused_text fault;
  lines = [];
  step = inr (record { fault = fault; fails = fails; unchanged = refl; written = refl; audited = refl });
  replied = replied;
  audited = sym (append-nil audit);
}
refused_answer (Err e) old texts fault replies replies_new audit fails replied = replied
