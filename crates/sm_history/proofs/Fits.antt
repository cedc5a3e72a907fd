-- An accepted change, a death too, leaves the places for the deaths to come.
use Rattle.std.proofs.Common.{◌≡◌, ℕ, ◌+◌, ◌≤◌, true, ◌==◌, List, [], ◌∷◌, refl, ap, ◌∙◌, length, arith, subst}
use Rattle.std.specs.Prelude.{filter, not}
use Rattle.std.specs.List.{list_any}
use Rattle.sm_history.specs.declared.by.By.{By}
use Rattle.sm_history.specs.declared.event.Event.{Event}
use Rattle.sm_history.specs.declared.event.Event.TheVariants.{Die}
use Rattle.sm_history.specs.declared.outcome.Outcome.{Outcome}
use Rattle.sm_history.specs.declared.reply.Reply.TheVariants.{Done}
use Rattle.sm_history.specs.Effects.{Dies}
use Rattle.sm_history.specs.Clients.{live_clients, is_live}
use Rattle.sm_history.specs.Histories.{History, effects_of, entered, client_of, turn_of}
use Rattle.sm_history.specs.declared.refusal.Refusal.TheVariants.{JournalFull}
use Rattle.sm_history.specs.EarlyAnswers.{Refused}
use Rattle.sm_history.specs.Checks.{Wants}
use Rattle.sm_history.specs.Verdict.{verdict, has_place}
use Rattle.sm_history.specs.Lawful.{FitsPlaces}
use Rattle.sm_history.specs.Sound.{Sound}
use Rattle.sm_history.proofs.SoundHistory.{met}
use Rattle.sm_history.proofs.AfterClients.{list_dies}
use Rattle.sm_history.proofs.Fitting.{fits_more}
use Rattle.sm_history.proofs.Living.{any_live}
use Rattle.sm_history.proofs.Lists.{filter_fewer}
use Rattle.sm_history.proofs.Balanced.{turned}
use Rattle.std.proofs.lemmas.List.Elements.{filter_agree}

fewer : (c : ℕ) (xs : List ℕ) → list_any (λ x. x == c) xs ≡ true
    → length (filter (λ k. not (c == k)) xs) + 1 ≤ length xs
fewer c xs h = subst (λ (ks : List ℕ). length ks + 1 ≤ length xs)
    (filter_agree (λ k. not (k == c)) (λ k. not (c == k)) (λ k. ap not (turned k c)) xs)
    (filter_fewer (λ x. x == c) xs h)

-- After a death there is a live client less.
pub fewer_live : (places : ℕ) (h : History) (by : By) (turn : ℕ) (outcome : Outcome)
    → verdict places h by turn Die ≡ Done outcome
    → length (live_clients (Dies (client_of by) ∷ effects_of h)) + 1 ≤ length (live_clients (effects_of h))
fewer_live places h by turn outcome done =
    let d = effects_of h in
    let c = client_of by in
    let live : is_live d c ≡ true =
    (met d (turn_of h by) by turn Die (Wants (has_place places h c Die) (Refused JournalFull) ∷ []) outcome
    done).acts in
    let one = fewer c (live_clients d) (any_live d c ∙ live) in
    let now = ap (length {A = ℕ}) (list_dies d c) in
    omega (arith, one, now)

pub fits_any : (places : ℕ) (h : History) (by : By) (turn : ℕ) (event : Event) (outcome : Outcome)
    → Sound (effects_of h) → FitsPlaces places h → verdict places h by turn event ≡ Done outcome
    → FitsPlaces places (entered (record { by = by; turn = turn; event = event; outcome = outcome }) h)
fits_any places h by turn Die outcome s fits done =
    let one = fewer_live places h by turn outcome done in omega (arith, one, fits)
fits_any places h by turn event outcome s fits done =
    fits_more places h (record { by = by; turn = turn; event = event; outcome = outcome }) s refl done
