-- What entering each event comes to.
use Rattle.std.proofs.Common.{◌≡◌, ℕ, Bool, true, false, ◌==◌, List, ◌∷◌, ap, sym, ◌∙◌, Option, Some}
use Rattle.sm_values.specs.declared.number.Node.{Node}
use Rattle.sm_values.specs.declared.number.ObjRef.{ObjRef}
use Rattle.sm_history.specs.declared.service.Service.{Service}
use Rattle.sm_history.specs.declared.delivery.Given.{Given}
use Rattle.sm_history.specs.declared.delivery.Delivery.{Delivery}
use Rattle.sm_history.specs.declared.delivery.Message.TheVariants.{Called}
use Rattle.sm_history.specs.declared.notice.Notice.{Notice}
use Rattle.sm_history.specs.declared.event.Event.TheVariants.{Add, Get, Watch as WatchName, Call}
use Rattle.sm_history.specs.declared.outcome.Outcome.{Outcome}
use Rattle.sm_history.specs.declared.outcome.Outcome.TheVariants.{Added, Granted, Watched, Sent}
use Rattle.sm_history.specs.declared.tables.Tables.{Tables}
use Rattle.sm_history.specs.Effects.{Effects}
use Rattle.sm_history.specs.declared.effect.Watch.{Watch}
use Rattle.sm_history.specs.declared.effect.Effect.TheVariants.{Adds, Gives, Watches, Delivers}
use Rattle.sm_history.specs.Clients.{is_live}
use Rattle.sm_history.specs.Holdings.{node_at, resolve_at}
use Rattle.sm_history.specs.Services.{service_at, watchers_at}
use Rattle.sm_history.specs.Notices.{notice_at, notices_at, after_notices}
use Rattle.sm_history.specs.Histories.{found, given_refs, handed_refs, call_delivery, service, watch, after_add}
use Rattle.sm_history.specs.Histories.{after_get, after_watch, after_call}
use Rattle.sm_history.specs.Verdict.{handle_number, notice_of_watch}
use Rattle.sm_history.specs.Following.{MayGive}
use Rattle.sm_history.specs.Sound.{Sound}
use Rattle.sm_history.specs.Tables.{TracksTables}
use Rattle.sm_history.specs.Entering.{AllFit, IsDone}
use Rattle.sm_history.proofs.AgreeEvents.{add_owner}
use Rattle.sm_history.proofs.AgreeNotices.{AllLive, watchers_live, sim_refs, live_refs}
use Rattle.sm_history.proofs.Followed.{sound_follows}
use Rattle.sm_history.proofs.Sound.{sound_watches}
use Rattle.sm_replay.proofs.EnteringSteps.{sim_self, may_give}
use Rattle.sm_replay.proofs.EnteringLoops.{TellsOne}

-- ---- getting

pub get_step : (d : Effects) (c : ℕ) (name : List ℕ) (sv : Service) (r : ℕ) (outcome : Outcome) (t : Tables) → Sound d
    → IsDone d c (Get name) outcome → outcome ≡ Granted r → service_at d name ≡ Some sv
    → (sv.node.owner.0 == c) ≡ false → (MayGive d c sv.node r → TracksTables (Gives c sv.node r ∷ d) t)
    → TracksTables (after_get d c (service_at d name)) t
get_step d c name sv r outcome t s done is found other give =
    let granted = sym is ∙ done.outcome_is in let number : r ≡ handle_number d c (service_at d name) = cc in
    let number' = rw found at number in let fits = rw (found, other) at done.fits in
    rw (found, other, ← number') (give (may_give d c sv.node r s done.acts number' (rw number' fits)))

-- ---- adding

-- This is what setting the service of a name promises, with the notices to watchers.
abbrev pub Puts : ℕ → List ℕ → Node → Bool → ℕ → Tables → Tables → Type 0
Puts c name n allow dump t t' = (e : Effects) → TracksTables e t → is_live e n.owner.0 ≡ true
    → TracksTables (Adds name (service c n allow dump) ∷ e) t'

abbrev pub TellsAll : Node → List Notice → Tables → Tables → Type 0
TellsAll n told t t' = (e : Effects) (ws : List Watch) → Sound e → TracksTables e t → AllLive e ws
    → told ≡ notices_at e n ws → AllFit (after_notices e n ws) → TracksTables (after_notices e n ws) t'

pub add_step : (d : Effects) (c : ℕ) (name copy : List ℕ) (obj : ObjRef) (allow : Bool) (dump : ℕ) (n : Node)
    (notices told : List Notice) (outcome : Outcome) (old mid new : Tables) → Sound d → TracksTables d old
    → IsDone d c (Add name obj allow dump) outcome → outcome ≡ Added notices → told ≡ notices
    → n ≡ found (resolve_at d c obj) → copy ≡ name → Puts c copy n allow dump old mid → TellsAll n told mid new
    → TracksTables (after_add d name (service c (found (resolve_at d c obj)) allow dump)) new
add_step d c name copy obj allow dump n notices told outcome old mid new s tr done is same node copied put tell =
    let m = found (resolve_at d c obj) in
    let e : Effects = Adds name (service c m allow dump) ∷ d in
    let owner = add_owner d c name obj allow dump done.passes in
    let put' : Puts c name m allow dump old mid = rw (← copied, ← node) put in
    let tell' : TellsAll m told mid new = rw (← node) tell in
    let listed = sym is ∙ done.outcome_is in let all : notices ≡ notices_at e m (watchers_at d name) = cc in
    tell' e (watchers_at d name) (sound_follows d (Adds name (service c m allow dump)) s owner) (put' d tr owner)
    (watchers_live d name)
    (same ∙ all) done.fits

-- ---- watching

abbrev pub Watching : Watch → Tables → Tables → Type 0
Watching w t t' = (e : Effects) → TracksTables e t → is_live e w.client ≡ true → TracksTables (Watches w ∷ e) t'

pub watch_step : (d : Effects) (c : ℕ) (name copy : List ℕ) (object : ℕ) (sv : Service) (told : Option Notice)
    (notice x : Notice) (outcome : Outcome) (old mid new : Tables) → Sound d → TracksTables d old
    → IsDone d c (WatchName name object) outcome → outcome ≡ Watched told → told ≡ Some notice → x ≡ notice
    → service_at d name ≡ Some sv → copy ≡ name → Watching (watch c copy object) old mid → TellsOne sv.node x mid new
    → TracksTables (after_watch (Watches (watch c name object) ∷ d) (watch c name object) (service_at d name)) new
watch_step d c name copy object sv told notice x outcome old mid new s tr done is some same found copied put tell =
    let w = watch c name object in
    let e : Effects = Watches w ∷ d in
    let put' : Watching w old mid = rw (← copied) put in
    let watched = sym is ∙ done.outcome_is in let told' : told ≡ notice_of_watch e w (service_at d name) = cc in
    let at = sym some ∙ rw found at told' in let here : notice ≡ notice_at e sv.node w = cc in
    rw found (tell e w (sound_watches d w done.acts s) (put' d tr done.acts) done.acts (same ∙ here)
    (rw found at done.fits))

-- ---- calling

abbrev pub HandsAll : ℕ → ℕ → List ObjRef → List Given → Tables → Tables → Type 0
HandsAll from to refs gs t t' = (e : Effects) → Sound e → TracksTables e t → is_live e from ≡ true → is_live e to ≡ true
    → gs ≡ given_refs e from to refs → AllFit (handed_refs e from to refs)
    → TracksTables (handed_refs e from to refs) t'

abbrev pub Puts1 : ℕ → Delivery → Tables → Tables → Type 0
Puts1 to x t t' = (e : Effects) → Sound e → TracksTables e t → is_live e to ≡ true → TracksTables (Delivers to x ∷ e) t'

pub call_step : (d : Effects) (c handle : ℕ) (payload : List ℕ) (refs : List ObjRef) (n : Node) (sent copy : Delivery)
    (pid uid : ℕ) (text : List ℕ) (gs : List Given) (outcome : Outcome) (old mid new : Tables) → Sound d
    → TracksTables d old → IsDone d c (Call handle payload refs) outcome → outcome ≡ Sent sent
    → n ≡ found (node_at d c handle) → sent.what ≡ Called pid uid text gs → copy ≡ sent
    → HandsAll c n.owner.0 refs gs old mid → Puts1 n.owner.0 copy mid new
    → TracksTables (after_call d c (found (node_at d c handle)) payload refs) new
call_step d c handle payload refs n sent copy pid uid text gs outcome old mid new s tr done is node what copied hand
    put =
    let m = found (node_at d c handle) in
    let to = m.owner.0 in
    let x = call_delivery d c m payload refs in
    let live : is_live d to ≡ true = done.passes.1.0 in
    let done' = sym is ∙ done.outcome_is in let made : sent ≡ x = cc in
    let said = sym what ∙ ap (λ (v : Delivery). v.what) made in let given : gs ≡ given_refs d c to refs = cc in
    let hand' : HandsAll c to refs gs old mid = rw (← node) hand in
    let put' : Puts1 to x mid new = rw (← (copied ∙ made), ← node) put in
    put' (handed_refs d c to refs) (sim_refs d d c to refs live (sim_self d s)).left
    (hand' d s tr done.acts live given done.fits) (live_refs d c to refs to ∙ live)
