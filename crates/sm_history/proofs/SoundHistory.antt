-- What holds of the effects of a history that is lawful apart from the journal's places.
use Rattle.std.proofs.Common.{inl, inr, ◌⊎◌, ◌≡◌, ℕ, ◌≤◌, ◌<◌, true, false, ◌==◌, List, [], ◌∷◌, refl, sym, ◌∙◌, arith}
use Rattle.std.specs.Prelude.{not, ◌&&◌, ◌||◌}
use Rattle.std.specs.List.{list_any}
use Rattle.std.proofs.lemmas.Bool.Decides.{nat_tests}
use Rattle.std.proofs.lemmas.Bool.{true≢false, and_parts}
use Rattle.sm_history.specs.declared.by.By.{By}
use Rattle.sm_history.specs.declared.by.By.TheVariants.{Manager, Client, Admin}
use Rattle.sm_history.specs.declared.event.Event.{Event}
use Rattle.sm_history.specs.declared.event.Event.TheVariants.{Connect, Add, Release, Die}
use Rattle.sm_history.specs.declared.outcome.Outcome.{Outcome}
use Rattle.sm_history.specs.declared.reply.Reply.TheVariants.{Done}
use Rattle.sm_history.specs.Effects.{Effects, Connects, Dies, Resumes}
use Rattle.sm_history.specs.Clients.{is_live, next_client, policy_at, is_connect_of, is_death_of}
use Rattle.sm_history.specs.Checks.{Check}
use Rattle.sm_history.specs.Histories.{client_of, after_event}
use Rattle.sm_history.specs.Verdict.{event_checks, is_there, outcome_of}
use Rattle.sm_history.specs.Agreeing.{Agree}
use Rattle.sm_history.specs.Segments.{all_checks, judged}
use Rattle.sm_history.proofs.Fresh.{live_below}
use Rattle.sm_history.proofs.Owners.{all_hold}
use Rattle.sm_history.proofs.Keeps.{Lasts, LeftToKeep, event_keeps}
use Rattle.sm_history.proofs.AfterClients.{live_dies}
use Rattle.sm_history.proofs.AgreeChecks.{Acts}
use Rattle.sm_history.proofs.AgreeEvents.{Passes, hold_left, acts_of, sim_event}
use Rattle.sm_history.specs.Sound.{IsFresh, Sound}

-- ---- what was done met its checks

-- What an accepted event met.
pub record Met (d : Effects) (by : By) (event : Event) : Type 0 where
  pub there : is_there d by ≡ true
  pub acts : Acts d (client_of by) event
  pub passes : Passes d (client_of by) event

pub met : (d : Effects) (have : ℕ) (by : By) (turn : ℕ) (event : Event) (rest : List Check) (outcome : Outcome)
    → judged d have by turn event rest ≡ Done outcome → Met d by event
met d have by turn event rest outcome done =
    let xs = event_checks d (client_of by) event in
    let a = all_hold (policy_at d) (all_checks d have by turn event rest) (outcome_of d (client_of by) event) outcome
    done in
    record { there = a.1.0; acts = acts_of d by event a.0 a.1.0; passes = hold_left (policy_at d) xs rest a.1.1.1 }

-- ---- soundness

pub agree_self : (d : Effects) → Agree d d
agree_self d = search

pub sound_event : (d : Effects) (by : By) (event : Event) → Sound d → Met d by event
    → Sound (after_event d (client_of by) event)
sound_event d by event s m =
    (sim_event d d (client_of by) event (record { agree = agree_self d; left = s; right = s }) m.acts m.passes).left

pub sound_none : Sound []
sound_none = record {
  fresh = λ k le. refl;
  owned = λ name s h. cc;
  balanced = λ c n. omega arith;
  single =
      λ c n m hn hm is. absurd (true≢false (sym hn));
  taken = λ c. omega arith;
  once = tt;
}

-- ---- clients to come

pub actor_below : (d : Effects) (by : By) → IsFresh d → is_there d by ≡ true → client_of by < next_client d
actor_below d Manager fresh there = omega arith
actor_below d (Client c) fresh there = live_below d c.0 fresh there
actor_below d (Admin a) fresh there = omega arith

-- Who is live after an event was live before it, or is new.
abbrev pub LiveOrNew : Effects → Effects → Type 0
LiveOrNew d e = (k : ℕ) → is_live e k ≡ true → (is_live d k ≡ true) ⊎ (next_client d ≤ k)

lasting : (b : Effects) → Lasts (LiveOrNew b)
lasting b (Connects c who) d plain h = absurd (true≢false (sym plain))
lasting b (Dies c) d plain h = absurd (true≢false (sym plain))
lasting b (Resumes v n) d plain h = absurd (true≢false (sym plain))
lasting b _ d plain h = h

same_lives : (d : Effects) → LiveOrNew d d
same_lives d k live = inl live

connect_lives : (d : Effects) (who : _) → LiveOrNew d (Connects (next_client d) who ∷ d)
connect_lives d who k live =
    let n = next_client d in
    elim (n == k) as (λ b. (n == k) ≡ b
    → ((b || list_any (is_connect_of k) d) && not (list_any (is_death_of k) d)) ≡ true
    → (is_live d k ≡ true) ⊎ (next_client d ≤ k)) [
      | true ↦ λ e i. inr (grind (arith, nat_tests))
      | false ↦ λ e i. inl i
    ] refl live

left_lives : (d : Effects) (c : ℕ) (event : Event) → LeftToKeep (LiveOrNew d) d c event
left_lives d c (Connect who) = connect_lives d who
left_lives d c (Add name obj allow dump) = same_lives d
left_lives d c (Release handle) = same_lives d
left_lives d c Die = λ k live. inl (and_parts (is_live d k) (not (c == k)) (sym (live_dies d c k) ∙ live)).0
left_lives d c _ = tt

pub live_or_new : (d : Effects) (c : ℕ) (event : Event) → LiveOrNew d (after_event d c event)
live_or_new d c event = event_keeps (LiveOrNew d) (lasting d) d c event (left_lives d c event) (same_lives d)
