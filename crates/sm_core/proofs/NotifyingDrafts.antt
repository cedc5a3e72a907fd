-- Drafts with notices to watchers.
use Rattle.std.proofs.Common.{◌≡◌, ℕ, ◌-◌, Bool, true, false, ◌||◌, List, [], ◌∷◌, ◌++◌, Option}
use Rattle.std.proofs.Common.{Some, None, refl, ap, sym, ◌∙◌, subst, length, get_or}
use Rattle.std.specs.Prelude.{nat_lt, unwrap_or}
use Rattle.std.specs.List.{list_any}
use Rattle.std.proofs.lemmas.Bool.{true≢false}
use Rattle.std.proofs.lemmas.List.{append-nil}
use Rattle.sm_values.specs.declared.number.Node.{Node}
use Rattle.sm_values.specs.declared.number.ObjRef.{ObjRef}
use Rattle.sm_history.specs.declared.event.Event.{Event}
use Rattle.sm_history.specs.declared.event.Event.TheVariants.{Add, Watch as WatchName}
use Rattle.sm_history.specs.declared.notice.Notice.{Notice}
use Rattle.sm_history.specs.declared.outcome.Outcome.{Outcome, TheVariants.Added, TheVariants.Watched}
use Rattle.sm_history.specs.declared.effect.Effect.{Effect}
use Rattle.sm_history.specs.declared.effect.Effect.TheVariants.{Adds, Watches}
use Rattle.sm_history.specs.declared.effect.Watch.{Watch}
use Rattle.sm_history.specs.declared.service.Service.{Service}
use Rattle.sm_history.specs.declared.delivery.Delivery.{Delivery}
use Rattle.sm_history.specs.declared.limits.TheConstants.{MOST_DELIVERIES, MOST_WATCHES}
use Rattle.sm_history.specs.Effects.{Effects}
use Rattle.sm_history.specs.Clients.{is_live}
use Rattle.sm_history.specs.Following.{followed}
use Rattle.sm_history.specs.Holdings.{resolve_at}
use Rattle.sm_history.specs.Notices.{notice_at, after_notice, notices_at, after_notices}
use Rattle.sm_history.specs.Histories.{found, service, watch, after_event}
use Rattle.sm_history.specs.Services.{service_at, watchers_at, watches_at}
use Rattle.sm_history.specs.Sound.{Sound}
use Rattle.sm_history.specs.Verdict.{outcome_of}
use Rattle.sm_history.specs.Lawful.{HasSoundPolicy}
use Rattle.sm_core.specs.declared.draft.Draft.{Draft}
use Rattle.sm_core.specs.Stands.{is_death, DeathIsLast}
use Rattle.sm_core.specs.Judging.{IsDrafted}
use Rattle.sm_core.specs.declared.inbox_rooms.InboxRooms.{InboxRooms}
use Rattle.sm_core.specs.Notifications.{AreNotifications, MayPrecede, Tells, TellsAll, free_at, left_in}
use Rattle.sm_history.specs.declared.records.Record.{Record}
use Rattle.sm_history.specs.Records.{Moment, moment_of, left_by_notices, left_by_telling}
use Rattle.sm_history.specs.Histories.{History, effects_of}
use Rattle.sm_core.proofs.Drafting.{one_effect}
use Rattle.sm_core.proofs.AsBefore.{before_adds, before_watches}

last_of_none : (xs : List Effect) → list_any is_death xs ≡ false → DeathIsLast xs
last_of_none [] h = tt
last_of_none (x ∷ xs) h =
    elim (is_death x) as (λ b. is_death x ≡ b → (b || list_any is_death xs) ≡ false → DeathIsLast (x ∷ xs)) [
      | true ↦ λ e f. absurd (true≢false f)
      | false ↦ λ e f. ((λ t. absurd (true≢false (sym t ∙ e))), last_of_none xs f)
    ] refl h

-- A draft with notices.
told_drafted : (m : Moment) (d : Effects) (c : ℕ) (event : Event) (draft : Draft) (outcome : Outcome) (after : Effects)
    → draft.told.items ≡ left_by_telling m d c event → Tells d after draft → outcome ≡ outcome_of d c event
    → after ≡ after_event d c event → HasSoundPolicy event → IsDrafted m d c event draft outcome
told_drafted m d c event draft outcome after told t out is sound = record {
  outcome = out;
  told = told;
  effects = t.effects ∙ is;
  may = t.may;
  last = last_of_none draft.effects.items t.none_dies;
  sound = sound;
}

pub precede_adds : (d : Effects) (n : Node) (xs : List Effect) (name : List ℕ) (t : Service) → Sound d
    → is_live d t.node.owner.0 ≡ true → xs ≡ Adds name t ∷ [] → MayPrecede d n xs
precede_adds d n xs name t s live is = subst (MayPrecede d n) (sym is) (record {
  may = record { before = before_adds d n name t s live; may = (live, tt); none_dies = refl };
  inboxes = λ c. refl;
})

pub precede_watches : (d : Effects) (n : Node) (xs : List Effect) (w : Watch) → Sound d → is_live d w.client ≡ true
    → nat_lt (length (watches_at d)) MOST_WATCHES ≡ true → xs ≡ Watches w ∷ [] → MayPrecede d n xs
precede_watches d n xs w s live few is = subst (MayPrecede d n) (sym is) (record {
  may = record { before = before_watches d n w s live; may = ((live, few), tt); none_dies = refl };
  inboxes = λ c. refl;
})

-- Nobody was notified yet.
pub none_notified : (d : Effects) (n : Node) (draft : Draft) (rooms : InboxRooms) → MayPrecede d n draft.effects.items
    → ((c : ℕ) → left_in rooms c ≡ None) → AreNotifications d n draft rooms
none_notified d n draft rooms before none = record {
  may = before.may;
  left = λ c live.
      ap (λ (o : Option ℕ). unwrap_or o (free_at d c)) (none c)
      ∙ ap (λ (v : List Delivery). MOST_DELIVERIES - length v) (sym (before.inboxes c));
}

-- A name without watches.
pub none_told : (m : Moment) (d : Effects) (n : Node) (ws : List Watch) (draft : Draft) (made : List Notice)
    → ws ≡ [] → made ≡ [] → MayPrecede d n draft.effects.items → TellsAll m d n ws draft draft made
none_told m d n ws draft made nobody none before = rw nobody (record {
  notices = none;
  told = sym (append-nil draft.told.items);
  records = refl;
  tells = record { effects = refl; may = before.may.may; none_dies = before.may.none_dies };
})

-- An Add that was notified.
pub add_drafted : (h : History) (c : ℕ) (name copy : List ℕ) (obj : ObjRef) (allow : Bool) (dump : ℕ)
    (object : Option Node) (n : Node) (mid new : Draft) (notices : List Notice) → let d = effects_of h in
    object ≡ resolve_at d c obj → object ≡ Some n → copy ≡ name
    → mid.effects.items ≡ Adds copy (service c n allow dump) ∷ [] → mid.told.items ≡ []
    → TellsAll (moment_of h) d n (watchers_at d name) mid new notices
    → IsDrafted (moment_of h) d c (Add name obj allow dump) new (Added notices)
add_drafted h c name copy obj allow dump object n mid new notices is some same items none t =
    let d = effects_of h in
    let m = moment_of h in
    let ws = watchers_at d name in
    let at : n ≡ found (resolve_at d c obj) = ap found (sym some ∙ is) in
    let on : followed d mid.effects.items ≡ Adds name (service c n allow dump) ∷ d =
    ap (followed d) items ∙ ap (λ (v : List ℕ). let e : Effects = Adds v (service c n allow dump) ∷ d in e) same in
    told_drafted m d c (Add name obj allow dump) new (Added notices) _
    (t.told ∙ ap (λ (rs : List Record). rs ++ left_by_notices m (followed d mid.effects.items) n ws) none
    ∙ ap (λ (e : Effects). left_by_notices m e n ws) on
    ∙ ap (λ (k : Node). left_by_notices m (Adds name (service c k allow dump) ∷ d) k ws) at)
    t.tells
    (ap (λ (xs : List Notice). Added xs) t.notices ∙ ap (λ (e : Effects). Added (notices_at e n ws)) on
    ∙ ap (λ (k : Node). Added (notices_at (Adds name (service c k allow dump) ∷ d) k ws)) at)
    (ap (λ (e : Effects). after_notices e n ws) on
    ∙ ap (λ (k : Node). after_notices (Adds name (service c k allow dump) ∷ d) k ws) at) tt

-- A Watch of a name with a service.
pub watch_drafted : (h : History) (c : ℕ) (name : List ℕ) (object : ℕ) (s : Service) (w v : Watch) (mid new : Draft)
    (x : Notice) → let d = effects_of h in Some s ≡ service_at d name → w ≡ watch c name object
    → v ≡ watch c name object → mid.effects.items ≡ Watches v ∷ [] → mid.told.items ≡ []
    → TellsAll (moment_of h) d s.node (w ∷ []) mid new (x ∷ [])
    → IsDrafted (moment_of h) d c (WatchName name object) new (Watched (Some x))
watch_drafted h c name object s w v mid new x is told made items none t =
    let d = effects_of h in
    let m = moment_of h in
    let on : followed d mid.effects.items ≡ Watches (watch c name object) ∷ d =
    ap (followed d) items ∙ ap (λ (u : Watch). let e : Effects = Watches u ∷ d in e) made in
    let first : x ≡ notice_at (followed d mid.effects.items) s.node w =
    ap (λ (xs : List Notice). get_or xs 0 x) t.notices in
    told_drafted m d c (WatchName name object) new (Watched (Some x)) _
    (t.told ∙ ap (λ (rs : List Record). rs ++ left_by_notices m (followed d mid.effects.items) s.node (w ∷ [])) none
    ∙ ap (λ (e : Effects). left_by_notices m e s.node (w ∷ [])) on
    ∙ ap (λ (u : Watch). left_by_notices m (Watches (watch c name object) ∷ d) s.node (u ∷ [])) told
    ∙ rw (← is) refl)
    t.tells
    (ap (λ (y : Notice). Watched (Some y)) first ∙ ap (λ (e : Effects). Watched (Some (notice_at e s.node w))) on
    ∙ ap (λ (u : Watch). Watched (Some (notice_at (Watches (watch c name object) ∷ d) s.node u))) told
    ∙ rw (← is) refl)
    (ap (λ (e : Effects). after_notice e s.node w) on
    ∙ ap (λ (u : Watch). after_notice (Watches (watch c name object) ∷ d) s.node u) told
    ∙ rw (← is) refl) tt

-- Where the name has no service, a Watch only watches.
pub watch_alone : (m : Moment) (d : Effects) (c : ℕ) (name : List ℕ) (object : ℕ) (v : Watch) (draft : Draft)
    → None ≡ service_at d name → v ≡ watch c name object → is_live d c ≡ true
    → nat_lt (length (watches_at d)) MOST_WATCHES ≡ true → draft.told.items ≡ []
    → draft.effects.items ≡ Watches v ∷ [] → IsDrafted m d c (WatchName name object) draft (Watched None)
watch_alone m d c name object v draft is made live few none items =
    one_effect m d c (WatchName name object) draft (Watched None) (Watches v) (none ∙ rw (← is) refl) items
    (ap (λ (u : Watch). let e : Effects = Watches u ∷ d in e) made ∙ rw (← is) refl)
    (subst (λ (u : Watch). is_live d u.client ≡ true) (sym made) live, few) (rw (← is) refl) tt
