-- A call's checks, judged part by part.
use Rattle.std.proofs.Common.{◌≡◌, inl, inr, ℕ, true, false, ◌&&◌, List, [], ◌∷◌, ◌++◌}
use Rattle.std.proofs.Common.{Option, Some, refl, ap, sym, ◌∙◌, subst}
use Rattle.std.specs.Prelude.{is_some}
use Rattle.std.proofs.lemmas.List.{append_assoc, append-nil}
use Rattle.sm_values.specs.declared.number.Node.{Node}
use Rattle.sm_values.specs.declared.number.ObjRef.{ObjRef}
use Rattle.sm_history.specs.Records.{Moment}
use Rattle.sm_history.specs.declared.records.Record.{Record}
use Rattle.sm_history.specs.declared.refusal.Refusal.TheVariants.{Failed}
use Rattle.sm_history.specs.declared.refusal.Failure.TheVariants.{BadHandle, TargetFull}
use Rattle.sm_history.specs.declared.reply.Reply.{Reply, TheVariants.Refused}
use Rattle.sm_history.specs.EarlyAnswers.{Refused as Refuses}
use Rattle.sm_history.specs.Effects.{Effects}
use Rattle.sm_history.specs.Clients.{is_live}
use Rattle.sm_history.specs.Checks.{Check, Wants}
use Rattle.sm_history.specs.Holdings.{resolve_at, node_at, fits_handles}
use Rattle.sm_history.specs.Histories.{handed_refs, found}
use Rattle.sm_history.specs.Inboxes.{has_inbox_room}
use Rattle.sm_history.specs.Sound.{Sound}
use Rattle.sm_history.specs.Verdict.{all_pass_to_client, passes_to_client, call_checks, object_checks, is_null}
use Rattle.sm_grants.specs.Several.{after_grants}
use Rattle.sm_grants.specs.Handing.{AreNamed, others}
use Rattle.sm_grants.proofs.Handing.{handed_are}
use Rattle.sm_core.specs.Judging.{Halts, AllPass, after_checks}
use Rattle.sm_core.specs.Calling.{target_checks, room_check}
use Rattle.sm_core.proofs.Stopping.{halts_first, halts_then, pass_both, pass_first}

-- Checks are stopped at where what is left of them is.
halts_alike : (m : Moment) (old mid new : List Record) (all xs : List Check) (s : Reply)
    → after_checks m old all ≡ after_checks m mid xs → Halts m mid new xs s → Halts m old new all s
halts_alike m old mid new all xs s e (inl w) = inl w
halts_alike m old mid new all xs s e (inr h) = inr (e ∙ h)

-- The references from one on are stopped at that one.
pub halts_left : (m : Moment) (old mid new : List Record) (d : Effects) (c k : ℕ) (refs left rest : List ObjRef)
    (r : ObjRef) (s : Reply)
    → after_checks m old (all_pass_to_client d c k refs) ≡ after_checks m mid (all_pass_to_client d c k left)
    → left ≡ r ∷ rest
    → Halts m mid new (passes_to_client d c k r) s → Halts m old new (all_pass_to_client d c k refs) s
halts_left m old mid new d c k refs left rest r s e is h =
    halts_alike m old mid new (all_pass_to_client d c k refs) (all_pass_to_client d c k (r ∷ rest)) s
    (e ∙ ap (λ (rs : List ObjRef). after_checks m mid (all_pass_to_client d c k rs)) is)
    (halts_first m mid new (passes_to_client d c k r) (all_pass_to_client d c k rest) s h)

-- The first of them passes, so that those behind it are left.
pub left_behind : (m : Moment) (old mid new : List Record) (d : Effects) (c k : ℕ) (refs left rest : List ObjRef)
    (r : ObjRef)
    → after_checks m old (all_pass_to_client d c k refs) ≡ after_checks m mid (all_pass_to_client d c k left)
    → left ≡ r ∷ rest
    → AllPass m mid new (passes_to_client d c k r)
    → after_checks m old (all_pass_to_client d c k refs) ≡ after_checks m new (all_pass_to_client d c k rest)
left_behind m old mid new d c k refs left rest r e is pass =
    e ∙ ap (λ (rs : List ObjRef). after_checks m mid (all_pass_to_client d c k rs)) is ∙
    pass_first m mid new (passes_to_client d c k r) (all_pass_to_client d c k rest) pass

-- Behind the objects that were named, those of the references that are left.
abbrev pub NamesOn : Effects → ℕ → List ObjRef → List ObjRef → List (Option Node) → Type 0
NamesOn d c refs left named = (rest : List (Option Node)) → AreNamed d c left rest → AreNamed d c refs (named ++ rest)

pub names_on : (d : Effects) (c : ℕ) (refs left rest : List ObjRef) (r : ObjRef) (o : Option Node)
    (named more : List (Option Node)) → NamesOn d c refs left named → left ≡ r ∷ rest → more ≡ named ++ o ∷ []
    → resolve_at d c r ≡ o → (is_null r ≡ false → is_some o ≡ true) → NamesOn d c refs rest more
names_on d c refs left rest r o named more names is items at some = λ os are.
    rw items (subst (λ (v : List (Option Node)). AreNamed d c refs v) (sym (append_assoc named (o ∷ []) os))
    (names (o ∷ os) (subst (λ (rs : List ObjRef). AreNamed d c rs (o ∷ os)) (sym is) (at, some, are))))

pub all_named : (m : Moment) (old new : List Record) (d : Effects) (c k : ℕ) (refs left : List ObjRef)
    (named : List (Option Node))
    → after_checks m old (all_pass_to_client d c k refs) ≡ after_checks m new (all_pass_to_client d c k left)
    → NamesOn d c refs left named → left ≡ []
    → AllPass m old new (all_pass_to_client d c k refs) × AreNamed d c refs named
all_named m old new d c k refs left named e names none = (
  e ∙ ap (λ (rs : List ObjRef). after_checks m new (all_pass_to_client d c k rs)) none,
  subst (λ (v : List (Option Node)). AreNamed d c refs v) (append-nil named)
      (names [] (subst (λ (rs : List ObjRef). AreNamed d c rs []) (sym none) tt)),
)

-- The room for a call of an object, as its checks have it.
abbrev room_behind : Effects → ℕ → Node → List ObjRef → List Check
room_behind d c n refs =
    Wants (has_inbox_room d n.owner.0 && fits_handles (handed_refs d c n.owner.0 refs) n.owner.0)
    (Refuses (Failed TargetFull)) ∷ []

room_is : (d : Effects) (c : ℕ) (n : Node) (refs : List ObjRef) (named : List (Option Node)) → Sound d
    → is_live d n.owner.0 ≡ true → AreNamed d c refs named
    → room_check d n.owner.0 (others n.owner.0 named) ≡ room_behind d c n refs
room_is d c n refs named s live are =
    ap (λ (e : Effects). Wants (has_inbox_room d n.owner.0 && fits_handles e n.owner.0)
    (Refuses (Failed TargetFull)) ∷ []) (sym (handed_are d c n.owner.0 refs named s live are).1)

checks_are : (d : Effects) (c handle : ℕ) (n : Node) (refs : List ObjRef) → node_at d c handle ≡ Some n
    → target_checks d c (node_at d c handle) ++ (all_pass_to_client d c n.owner.0 refs ++ room_behind d c n refs)
    ≡ call_checks d c handle refs
checks_are d c handle n refs at =
    ap (λ (o : Option Node). target_checks d c o ++ (all_pass_to_client d c n.owner.0 refs ++ room_behind d c n refs))
    at ∙
    sym (ap (λ (o : Option Node). Wants (is_some o) (Refuses (Failed BadHandle)) ∷ object_checks d c refs (found o))
    at)

-- A call whose target passes is stopped at one of its references, or at its receiver's room, or at no check.
pub references_halt : (m : Moment) (old one new : List Record) (d : Effects) (c handle : ℕ) (n : Node)
    (refs : List ObjRef) (s : Reply)
    → AllPass m old one (target_checks d c (node_at d c handle)) → node_at d c handle ≡ Some n
    → Halts m one new (all_pass_to_client d c n.owner.0 refs) s
    → Halts m old new (call_checks d c handle refs) s
references_halt m old one new d c handle n refs s target at h =
    subst (λ (xs : List Check). Halts m old new xs s) (checks_are d c handle n refs at)
    (halts_then m old one new (target_checks d c (node_at d c handle))
    (all_pass_to_client d c n.owner.0 refs ++ room_behind d c n refs) s target
    (halts_first m one new (all_pass_to_client d c n.owner.0 refs) (room_behind d c n refs) s h))

pub room_halts : (m : Moment) (old one new : List Record) (d : Effects) (c handle : ℕ) (n : Node)
    (refs : List ObjRef) (named : List (Option Node))
    → AllPass m old one (target_checks d c (node_at d c handle)) → node_at d c handle ≡ Some n
    → Sound d → is_live d n.owner.0 ≡ true → AreNamed d c refs named
    → AllPass m one new (all_pass_to_client d c n.owner.0 refs)
    → (has_inbox_room d n.owner.0 && fits_handles (after_grants d n.owner.0 (others n.owner.0 named)) n.owner.0) ≡ false
    → Halts m old new (call_checks d c handle refs) (Refused (Failed TargetFull))
room_halts m old one new d c handle n refs named target at sound live are pass full =
    let s : Reply = Refused (Failed TargetFull) in
    let h : Halts m new new (room_check d n.owner.0 (others n.owner.0 named)) s = inr (rw full refl) in
    subst (λ (xs : List Check). Halts m old new xs s) (checks_are d c handle n refs at)
    (halts_then m old one new (target_checks d c (node_at d c handle))
    (all_pass_to_client d c n.owner.0 refs ++ room_behind d c n refs) s target
    (halts_then m one new new (all_pass_to_client d c n.owner.0 refs) (room_behind d c n refs) s pass
    (subst (λ (xs : List Check). Halts m new new xs s) (room_is d c n refs named sound live are) h)))

pub call_passes : (m : Moment) (old one new : List Record) (d : Effects) (c handle : ℕ) (n : Node)
    (refs : List ObjRef) (named : List (Option Node))
    → AllPass m old one (target_checks d c (node_at d c handle)) → node_at d c handle ≡ Some n
    → Sound d → is_live d n.owner.0 ≡ true → AreNamed d c refs named
    → AllPass m one new (all_pass_to_client d c n.owner.0 refs)
    → (has_inbox_room d n.owner.0 && fits_handles (after_grants d n.owner.0 (others n.owner.0 named)) n.owner.0) ≡ true
    → AllPass m old new (call_checks d c handle refs)
call_passes m old one new d c handle n refs named target at sound live are pass room =
    let h : AllPass m new new (room_check d n.owner.0 (others n.owner.0 named)) = rw room refl in
    subst (λ (xs : List Check). AllPass m old new xs) (checks_are d c handle n refs at)
    (pass_both m old one new (target_checks d c (node_at d c handle))
    (all_pass_to_client d c n.owner.0 refs ++ room_behind d c n refs) target
    (pass_both m one new new (all_pass_to_client d c n.owner.0 refs) (room_behind d c n refs) pass
    (subst (λ (xs : List Check). AllPass m new new xs) (room_is d c n refs named sound live are) h)))
