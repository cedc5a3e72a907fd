-- An accepted change leaves the places for the deaths to come.
use Rattle.std.proofs.Common.{◌≡◌, ℕ, ◌+◌, ◌-◌, ◌≤◌, true, false, List, [], ◌∷◌, ◌++◌, refl, ap, sym, ◌∙◌, length}
use Rattle.std.proofs.Common.{arith}
use Rattle.std.specs.Prelude.{Bool, ◌&&◌, ◌||◌, nat_le, nat_lt, ◌<◌}
use Rattle.std.proofs.lemmas.Bool.Decides.{nat_tests}
use Rattle.std.proofs.lemmas.Bool.{true≢false, and_parts}
use Rattle.std.proofs.lemmas.List.{length-append}
use Rattle.sm_policy.specs.Policy.{Policy}
use Rattle.sm_history.specs.declared.entry.Entry.{Entry}
use Rattle.sm_history.specs.declared.event.Event.{Event}
use Rattle.sm_history.specs.declared.event.Event.TheVariants.{Connect, Add, Release, Die}
use Rattle.sm_history.specs.declared.reply.Reply.TheVariants.{Done}
use Rattle.sm_history.specs.EarlyAnswers.{Refused}
use Rattle.sm_history.specs.declared.refusal.Refusal.TheVariants.{JournalFull}
use Rattle.sm_history.specs.Effects.{Effects, Connects, Dies}
use Rattle.sm_history.specs.Checks.{Check, Wants}
use Rattle.sm_history.specs.Clients.{policy_at, live_clients, next_client}
use Rattle.sm_history.specs.Histories.{History, effects_of, entered, client_of, length_of, after_event}
use Rattle.sm_history.specs.Holdings.{counts_fit}
use Rattle.sm_history.specs.declared.limits.TheConstants.{GREATEST}
use Rattle.sm_history.specs.Verdict.{verdict, checks, has_place, places_needed, is_die, outcome_of, actor_checks}
use Rattle.sm_history.specs.Verdict.{event_checks}
use Rattle.sm_history.specs.Lawful.{FitsPlaces}
use Rattle.sm_history.proofs.Keeps.{Lasts, LeftToKeep, event_keeps}
use Rattle.sm_history.proofs.Owners.{AllHold, all_hold}
use Rattle.sm_history.proofs.AfterClients.{list_connects}
use Rattle.sm_history.proofs.Sound.{is_new}
use Rattle.sm_history.specs.Sound.{Sound}

abbrev LivesIn : ℕ → Effects → Type 0
LivesIn n d = length (live_clients d) ≤ n

lives_last : (n : ℕ) → Lasts (LivesIn n)
lives_last n (Connects c who) d plain h = absurd (true≢false (sym plain))
lives_last n (Dies c) d plain h = absurd (true≢false (sym plain))
lives_last n _ d plain h = h

lives_left : (d : Effects) (c : ℕ) (event : Event) → is_die event ≡ false → Sound d
    → LeftToKeep (LivesIn (length (live_clients d) + (places_needed event - 1))) d c event
lives_left d c (Connect who) a s = let e = ap (length {A = ℕ})
    (list_connects d (next_client d) who (is_new d (next_client d) refl s.fresh)) ∙
    length-append (live_clients d) (next_client d ∷ []) in omega (arith, e)
lives_left d c (Add name obj allow dump) a s = omega arith
lives_left d c (Release handle) a s = omega arith
lives_left d c Die a s = absurd (true≢false a)
lives_left d c _ a s = tt

hold_right : (p : Policy) (xs ys : List Check) → AllHold p (xs ++ ys) → AllHold p ys
hold_right p [] ys h = h
hold_right p (x ∷ xs) ys h = hold_right p xs ys h.1

pub place_done : (places : ℕ) (h : History) (e : Entry) → verdict places h e.by e.turn e.event ≡ Done e.outcome
    → has_place places h (client_of e.by) e.event ≡ true
place_done places h e done =
    let d = effects_of h in
    let a = all_hold (policy_at d) (checks places h e.by e.turn e.event) (outcome_of d (client_of e.by) e.event)
    e.outcome done in
    (hold_right (policy_at d) (actor_checks h e.by e.turn e.event ++ event_checks d (client_of e.by) e.event)
    (Wants (has_place places h (client_of e.by) e.event) (Refused JournalFull) ∷ []) a).0

needs_one : (event : Event) → 1 ≤ places_needed event
needs_one (Connect who) = omega arith
needs_one _ = omega arith

-- What a change that is no death had: places, room for its length, and counts that fit.
pub record HasRoom (places : ℕ) (h : History) (c : ℕ) (event : Event) : Type 0 where
  pub now : length h.entries + length (live_clients (effects_of h)) + places_needed event ≤ places
  pub lengths : length_of h + length (live_clients (effects_of h)) + places_needed event < GREATEST
  pub counts : counts_fit (after_event (effects_of h) c event) ≡ true

room_of : (a b : ℕ) (n m : ℕ) (counts : Bool) → (nat_le a b && nat_lt n m && counts) ≡ true
    → (a ≤ b) × (n < m) × (counts ≡ true)
room_of a b n m counts all =
    let some = and_parts (nat_le a b && nat_lt n m) counts all in
    let both = and_parts (nat_le a b) (nat_lt n m) some.0 in
    let le = both.0 in
    let lt = both.1 in
    (grind (arith, nat_tests), grind (arith, nat_tests), some.1)

behind_death : (dies other : Bool) → dies ≡ false → (dies || other) ≡ true → other ≡ true
behind_death true other none any = absurd (true≢false none)
behind_death false other none any = any

pub room_done : (places : ℕ) (h : History) (e : Entry) → is_die e.event ≡ false
    → verdict places h e.by e.turn e.event ≡ Done e.outcome → HasRoom places h (client_of e.by) e.event
room_done places h e alive done =
    let d = effects_of h in
    let live = length (live_clients d) in
    let needed = places_needed e.event in
    let room = room_of (length h.entries + live + needed) places (length_of h + live + needed) GREATEST
    (counts_fit (after_event d (client_of e.by) e.event))
    (behind_death (is_die e.event) _ alive (place_done places h e done)) in
    record { now = room.0; lengths = room.1; counts = room.2 }

-- This is the number of live clients after a change that is no death.
pub lives_after : (d : Effects) (c : ℕ) (event : Event) → Sound d → is_die event ≡ false
    → length (live_clients (after_event d c event)) + 1 ≤ length (live_clients d) + places_needed event
lives_after d c event s alive =
    let n = length (live_clients d) + (places_needed event - 1) in
    let lives = event_keeps (LivesIn n) (lives_last n) d c event (lives_left d c event alive s) (omega arith) in
    let one = needs_one event in
    omega (arith, lives, one)

pub fits_more : (places : ℕ) (h : History) (e : Entry) → Sound (effects_of h) → is_die e.event ≡ false
    → verdict places h e.by e.turn e.event ≡ Done e.outcome → FitsPlaces places (entered e h)
fits_more places h e s alive done =
    let room = (room_done places h e alive done).now in
    let lives = lives_after (effects_of h) (client_of e.by) e.event s alive in
    omega (arith, lives, room)
