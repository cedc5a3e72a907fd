-- An Unregister, judged part by part.
use Rattle.std.proofs.Common.{◌≡◌, ℕ, List, [], ◌∷◌, Option, refl, ap, ◌∙◌}
use Rattle.std.specs.Prelude.{is_some, not, ◌==◌}
use Rattle.sm_values.specs.declared.number.Node.{Node}
use Rattle.sm_values.specs.declared.number.ObjRef.{ObjRef}
use Rattle.sm_values.specs.declared.number.ObjRef.TheVariants.{Handle as HandleRef}
use Rattle.sm_history.specs.Records.{Moment}
use Rattle.sm_history.specs.declared.records.Record.{Record}
use Rattle.sm_history.specs.declared.event.Event.TheVariants.{Unregister}
use Rattle.sm_history.specs.declared.effect.Effect.TheVariants.{Removes}
use Rattle.sm_history.specs.EarlyAnswers.{Refused}
use Rattle.sm_history.specs.declared.refusal.Refusal.TheVariants.{Failed, Exception}
use Rattle.sm_history.specs.declared.refusal.Failure.TheVariants.{BadHandle}
use Rattle.sm_history.specs.declared.refusal.Exception.TheVariants.{NullBinder, NotRegistered, NotAdder}
use Rattle.sm_history.specs.declared.refusal.Exception.TheVariants.{OtherObject, InUse}
use Rattle.sm_history.specs.declared.outcome.Outcome.TheVariants.{Unregistered}
use Rattle.sm_history.specs.Effects.{Effects, same_node}
use Rattle.sm_history.specs.Checks.{Check, Wants, to_manager, to_label, transferring, adding}
use Rattle.sm_history.specs.Holdings.{resolve_at, node_at, is_in_use}
use Rattle.sm_history.specs.Histories.{found}
use Rattle.sm_history.specs.Services.{service_at}
use Rattle.sm_history.specs.Verdict.{passes_to_manager, is_null, service_meets}
use Rattle.sm_core.specs.declared.draft.Draft.{Draft}
use Rattle.sm_core.specs.Judging.{AllPass, IsDrafted, removal_checks}
use Rattle.sm_core.proofs.Adding.{passed_some}
use Rattle.sm_core.proofs.Drafting.{one_effect}

-- These are the checks of an Unregister behind those of its reference.
abbrev pub removing : Effects → ℕ → List ℕ → ObjRef → List Check
removing d c name obj =
    Wants (not (is_null obj)) (Refused (Exception NullBinder))
    ∷ to_label d c name adding
    ∷ Wants (is_some (service_at d name)) (Refused (Exception NotRegistered))
    ∷ Wants (service_meets (λ s. s.adder == c) (service_at d name)) (Refused (Exception NotAdder))
    ∷ Wants (service_meets (λ s. same_node s.node (found (resolve_at d c obj))) (service_at d name))
    (Refused (Exception OtherObject))
    ∷ Wants (not (is_in_use d c (found (resolve_at d c obj)))) (Refused (Exception InUse))
    ∷ []

-- Behind a reference that passes, the checks go by the object that it names.
pub removing_is : (m : Moment) (old new : List Record) (d : Effects) (c : ℕ) (name : List ℕ) (obj : ObjRef)
    (object : Option Node) → AllPass m old new (passes_to_manager d c obj) → object ≡ resolve_at d c obj
    → removal_checks d c name object ≡ removing d c name obj
removing_is m old new d c name (HandleRef r) object pass is =
    ap (removal_checks d c name) is
    ∙ rw (passed_some m old new (node_at d c r) (Refused (Failed BadHandle)) (to_manager d c transferring ∷ []) pass)
    refl
removing_is m old new d c name obj object pass is = ap (removal_checks d c name) is

pub removal_drafted : (m : Moment) (d : Effects) (c : ℕ) (name copy : List ℕ) (obj : ObjRef) (draft : Draft)
    → copy ≡ name → draft.told.items ≡ [] → draft.effects.items ≡ Removes copy ∷ []
    → IsDrafted m d c (Unregister name obj) draft Unregistered
removal_drafted m d c name copy obj draft same none items =
    one_effect m d c (Unregister name obj) draft Unregistered (Removes copy) none items
    (ap (λ (v : List ℕ). Removes v ∷ d) same) tt refl tt
