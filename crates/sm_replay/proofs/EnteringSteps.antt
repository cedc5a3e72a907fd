-- What an accepted change does to tables, step by step.
use Rattle.std.proofs.Common.{◌≡◌, ℕ, ◌+◌, true, false, ◌==◌, ◌∷◌, ap, sym, ◌∙◌, subst, Some, None, if◌then◌else◌}
use Rattle.std.proofs.Common.{arith}
use Rattle.sm_values.specs.declared.number.Node.{Node}
use Rattle.sm_history.specs.declared.limits.TheConstants.{GREATEST}
use Rattle.sm_history.specs.declared.delivery.Given.{Given}
use Rattle.sm_history.specs.declared.delivery.Given.TheVariants.{Handle, Own}
use Rattle.sm_history.specs.declared.delivery.Delivery.{Delivery}
use Rattle.sm_history.specs.declared.notice.Notice.{Notice}
use Rattle.sm_history.specs.declared.notice.Told.TheVariants.{Told as IsTold}
use Rattle.sm_history.specs.declared.tables.Tables.{Tables}
use Rattle.sm_history.specs.Effects.{Effects}
use Rattle.sm_history.specs.declared.effect.Watch.{Watch}
use Rattle.sm_history.specs.declared.effect.Effect.TheVariants.{Gives, Delivers}
use Rattle.sm_history.specs.Clients.{is_live}
use Rattle.sm_history.specs.Holdings.{refs_at, number_for, given_to, handed}
use Rattle.sm_history.specs.Notices.{registration, told_of, notice_at, first_missing, after_told, after_notice}
use Rattle.sm_history.specs.Following.{MayGive}
use Rattle.sm_history.specs.Sound.{Sound}
use Rattle.sm_history.specs.Tables.{TracksTables}
use Rattle.sm_history.specs.Entering.{AllFit, given_of}
use Rattle.sm_history.proofs.AgreeEffects.{Sim}
use Rattle.sm_history.proofs.AgreeNotices.{sim_handed, sim_notice, live_handed}
use Rattle.sm_history.proofs.SoundHistory.{agree_self}
use Rattle.sm_history.proofs.NumbersFit.{is_below}
use Rattle.sm_history.proofs.Counted.{one_more}

pub sim_self : (d : Effects) → Sound d → Sim d d
sim_self d s = record { agree = agree_self d; left = s; right = s }

pub sound_handed : (d : Effects) (c : ℕ) (n : Node) → Sound d → is_live d c ≡ true → Sound (handed d c n)
sound_handed d c n s live = (sim_handed d d c n live (sim_self d s)).left

pub sound_notice : (d : Effects) (n : Node) (w : Watch) → Sound d → is_live d w.client ≡ true
    → Sound (after_notice d n w)
sound_notice d n w s live = (sim_notice d d n w (sim_self d s) live).left

-- ---- passing

pub may_give : (d : Effects) (c : ℕ) (n : Node) (r : ℕ) → Sound d → is_live d c ≡ true → r ≡ number_for d c n
    → AllFit (Gives c n r ∷ d) → MayGive d c n r
may_give d c n r s live number fits = (
  live,
  number,
  is_below (refs_at d c n + 1) GREATEST (let more = one_more d c n r s.balanced live in let lt = fits c n in
      omega (arith, more, lt)),
)

-- An object that reaches a client as a handle is given to it.
pub hand_given : (d : Effects) (c : ℕ) (n : Node) (r : ℕ) → Sound d → is_live d c ≡ true
    → (let g : Given = Handle r in g) ≡ given_to d c n → AllFit (handed d c n)
    → MayGive d c n r × (handed d c n ≡ Gives c n r ∷ d)
hand_given d c n r s live =
    elim (n.owner.0 == c) as (λ b. (let g : Given = Handle r in g) ≡ (if b then Own n.object else Handle
    (number_for d c n))
    → AllFit (if b then d else Gives c n (number_for d c n) ∷ d)
    → MayGive d c n r × ((let e : Effects = if b then d else Gives c n (number_for d c n) ∷ d in e)
    ≡ Gives c n r ∷ d)) [
      | true ↦ λ is fits. cc
      | false ↦ λ is fits.
          let same : r ≡ number_for d c n = cc in
          let after = subst (λ (v : ℕ). AllFit (Gives c n v ∷ d)) (sym same) fits in
          (may_give d c n r s live same after, ap (λ (v : ℕ). let e : Effects = Gives c n v ∷ d in e) (sym same))
    ]

-- ---- notifying

-- These are the effects of the steps of notifying a watcher.
pub tell_step : (d : Effects) (w : Watch) (n : Node) (notice : Notice) (x copy : Delivery) (given : Given)
    (old mid new : Tables) → Sound d → TracksTables d old → is_live d w.client ≡ true → notice ≡ notice_at d n w
    → AllFit (after_notice d n w) → notice.result ≡ IsTold x → given ≡ given_of x → copy ≡ x
    → ((e : Effects) → Sound e → TracksTables e old → is_live e notice.client.0 ≡ true
    → given ≡ given_to e notice.client.0 n → AllFit (handed e notice.client.0 n)
    → TracksTables (handed e notice.client.0 n) mid)
    → ((e : Effects) → Sound e → TracksTables e mid → is_live e notice.client.0 ≡ true
    → TracksTables (Delivers notice.client.0 copy ∷ e) new)
    → TracksTables (after_notice d n w) new
tell_step d w n notice x copy given old mid new s tr live is fits told by same hand deliver =
    let told' = rw is at told in
    let hand' = rw is at hand in
    let deliver' = rw is at deliver in
    elim (first_missing d n w) as (λ o. told_of d n w o ≡ IsTold x → AllFit (after_told d n w o)
    → TracksTables (after_told d n w o) new) [
      | None ↦ λ is' fits'.
          let registered : registration d n w ≡ x = cc in
          let given' : given ≡ given_to d w.client n = by ∙ ap given_of (sym registered) in
          rw (← (same ∙ sym registered))
          (deliver' (handed d w.client n) (sound_handed d w.client n s live) (hand' d s tr live given' fits')
          (live_handed d w.client n w.client ∙ live))
      | Some failing ↦ λ is' fits'. cc
    ] told' fits
