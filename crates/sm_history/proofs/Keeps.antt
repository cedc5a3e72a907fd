-- An induction over what an event does: a fact that no plain effect breaks is kept by every event but a Connect,
-- a Die, a Release and an Add.
use Rattle.std.proofs.Common.{◌≡◌, ℕ, Bool, true, false, ◌==◌, List, [], ◌∷◌, refl, Option, Some, None, if◌then◌else◌}
use Rattle.sm_values.specs.declared.number.Node.{Node}
use Rattle.sm_values.specs.declared.number.ObjRef.{ObjRef}
use Rattle.sm_history.specs.FailedChecks.{FailedCheck}
use Rattle.sm_history.specs.declared.event.Event.{Event}
use Rattle.sm_history.specs.declared.event.Event.TheVariants.{Open, Connect, Add, Get, Watch as WatchName, Unwatch}
use Rattle.sm_history.specs.declared.event.Event.TheVariants.{Unregister, Call, Release, Take, Die, Reload}
use Rattle.sm_history.specs.Effects.{Effect, Effects, Service, Watch, Opens, Sets, Connects, Dies, Adds, Removes}
use Rattle.sm_history.specs.Effects.{Gives, Releases, Watches, Unwatches, Delivers, Takes, Resumes}
use Rattle.sm_history.specs.declared.delivery.Delivery.{Delivery}
use Rattle.sm_history.specs.Clients.{next_client}
use Rattle.sm_history.specs.Holdings.{handed, number_for, resolve_at, node_at}
use Rattle.sm_history.specs.Services.{service_at, watchers_at}
use Rattle.sm_history.specs.Notices.{after_told, after_notice, after_notices, first_missing, registration}
use Rattle.sm_history.specs.Histories.{found, handed_ref, handed_refs, after_event, after_watch, after_get}
use Rattle.sm_history.specs.Histories.{call_delivery, watch, service}

abbrev pub is_plain : Effect → Bool
is_plain (Connects c who) = false
is_plain (Dies c) = false
is_plain (Releases c n) = false
is_plain (Adds name s) = false
is_plain (Resumes version clients) = false
is_plain _ = true

-- No plain effect breaks it.
abbrev pub Lasts : (Effects → Type 0) → Type 0
Lasts P = (x : Effect) (d : Effects) → is_plain x ≡ true → P d → P (x ∷ d)

-- What grants keep is kept where objects are passed.
module _ (P : Effects → Type 0) (gives : (c : ℕ) (n : Node) (r : ℕ) (d : Effects) → P d → P (Gives c n r ∷ d)) where
  pub handed_keeps : (d : Effects) (c : ℕ) (n : Node) → P d → P (handed d c n)
  handed_keeps d c n h = elim (n.owner.0 == c) as (λ b. P (if b then d else Gives c n (number_for d c n) ∷ d))
      [ true ↦ h | false ↦ gives c n (number_for d c n) d h ]

  pub ref_keeps : (d : Effects) (to : ℕ) (o : Option Node) → P d → P (handed_ref d to o)
  ref_keeps d to None h = h
  ref_keeps d to (Some n) h = handed_keeps d to n h

  pub refs_keep : (d : Effects) (from to : ℕ) (rs : List ObjRef) → P d → P (handed_refs d from to rs)
  refs_keep d from to [] h = h
  refs_keep d from to (r ∷ rs) h = let o = resolve_at d from r in
      refs_keep (handed_ref d to o) from to rs (ref_keeps d to o h)

  pub get_keeps : (d : Effects) (c : ℕ) (o : Option Service) → P d → P (after_get d c o)
  get_keeps d c None h = h
  get_keeps d c (Some s) h = handed_keeps d c s.node h

-- What deliveries keep, too, is kept where watchers are notified.
module _ (P : Effects → Type 0) (gives : (c : ℕ) (n : Node) (r : ℕ) (d : Effects) → P d → P (Gives c n r ∷ d))
    (delivers : (c : ℕ) (x : Delivery) (d : Effects) → P d → P (Delivers c x ∷ d)) where
  pub told_keeps : (d : Effects) (n : Node) (w : Watch) (o : Option FailedCheck) → P d → P (after_told d n w o)
  told_keeps d n w None h = delivers w.client (registration d n w) (handed d w.client n)
      (handed_keeps P gives d w.client n h)
  told_keeps d n w (Some failing) h = h

  pub notices_keep : (d : Effects) (n : Node) (ws : List Watch) → P d → P (after_notices d n ws)
  notices_keep d n [] h = h
  notices_keep d n (w ∷ ws) h = notices_keep (after_notice d n w) n ws (told_keeps d n w (first_missing d n w) h)

  pub watch_keeps : (d : Effects) (w : Watch) (o : Option Service) → P d → P (after_watch d w o)
  watch_keeps d w None h = h
  watch_keeps d w (Some s) h = told_keeps d s.node w (first_missing d s.node w) h

-- What is left to show of the others.
abbrev pub LeftToKeep : (Effects → Type 0) → Effects → ℕ → Event → Type 0
LeftToKeep P d c (Connect who) = P (Connects (next_client d) who ∷ d)
LeftToKeep P d c Die = P (Dies c ∷ d)
LeftToKeep P d c (Release handle) = P (Releases c (found (node_at d c handle)) ∷ d)
LeftToKeep P d c (Add name obj allow dump) = P (Adds name (service c (found (resolve_at d c obj)) allow dump) ∷ d)
LeftToKeep P d c _ = Unit {0}

pub event_keeps : (P : Effects → Type 0) → Lasts P → (d : Effects) (c : ℕ) (event : Event) → LeftToKeep P d c event
    → P d → P (after_event d c event)
event_keeps P lasts d c (Open who policy) left h = lasts (Sets policy) (Opens who ∷ d) refl (lasts (Opens who) d refl h)
event_keeps P lasts d c (Connect who) left h = left
event_keeps P lasts d c (Add name obj allow dump) left h = let n = found (resolve_at d c obj) in
    notices_keep P (λ k m r b. lasts (Gives k m r) b refl) (λ k x b. lasts (Delivers k x) b refl)
    (Adds name (service c n allow dump) ∷ d) n (watchers_at d name) left
event_keeps P lasts d c (Get name) left h =
    get_keeps P (λ k m r b. lasts (Gives k m r) b refl) d c (service_at d name) h
event_keeps P lasts d c (WatchName name object) left h = let w = watch c name object in
    watch_keeps P (λ k m r b. lasts (Gives k m r) b refl) (λ k x b. lasts (Delivers k x) b refl)
    (Watches w ∷ d) w (service_at d name) (lasts (Watches w) d refl h)
event_keeps P lasts d c (Unwatch name object) left h = lasts (Unwatches (watch c name object)) d refl h
event_keeps P lasts d c (Unregister name obj) left h = lasts (Removes name) d refl h
event_keeps P lasts d c (Call handle payload refs) left h = let n = found (node_at d c handle) in
    lasts (Delivers n.owner.0 (call_delivery d c n payload refs)) (handed_refs d c n.owner.0 refs) refl
    (refs_keep P (λ k m r b. lasts (Gives k m r) b refl) d c n.owner.0 refs h)
event_keeps P lasts d c (Release handle) left h = left
event_keeps P lasts d c Take left h = lasts (Takes c) d refl h
event_keeps P lasts d c Die left h = left
event_keeps P lasts d c (Reload expected policy) left h = lasts (Sets policy) d refl h
