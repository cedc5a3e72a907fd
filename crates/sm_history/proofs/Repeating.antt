-- A change of a history that is asked for again.
use Rattle.std.proofs.Common.{◌≡◌, ◌⊎◌, ℕ, ◌≤◌, Bool, true, false, ◌&&◌, ◌||◌, List, [], ◌∷◌, ◌++◌, refl, sym, ap, ◌∙◌}
use Rattle.std.proofs.Common.{inl, inr, subst, ⊎_elim, length, ◌+◌, arith}
use Rattle.std.specs.Prelude.{nat_le, Option}
use Rattle.std.proofs.lemmas.Bool.{and_parts}
use Rattle.std.proofs.lemmas.Bool.Decides.{nat_tests}
use Rattle.sm_policy.specs.Policy.{Policy}
use Rattle.sm_history.specs.declared.entry.Entry.{Entry}
use Rattle.sm_history.specs.declared.event.Event.{Event}
use Rattle.sm_history.specs.FailedChecks.{FailedCheck}
use Rattle.sm_history.specs.EarlyAnswers.{Refused as IsRefused}
use Rattle.sm_history.specs.declared.refusal.Refusal.TheVariants.{JournalFull}
use Rattle.sm_history.specs.declared.reply.Reply.{Reply}
use Rattle.sm_history.specs.declared.reply.Reply.TheVariants.{Done}
use Rattle.sm_history.specs.Books.{Book}
use Rattle.sm_history.specs.BookOrder.{extended}
use Rattle.sm_history.specs.Checks.{Check, Wants, holds}
use Rattle.sm_history.specs.Clients.{policy_at, live_clients}
use Rattle.sm_history.specs.Entering.{AllHold}
use Rattle.sm_history.specs.Histories.{History, effects_of, client_of, turn_of, after_event}
use Rattle.sm_history.specs.Holdings.{counts_fit}
use Rattle.sm_history.specs.Lawful.{IsJudged}
use Rattle.sm_history.specs.Repeating.{book_of, Repeats}
use Rattle.sm_history.specs.Steps.{Steps, entry_made, book_after}
use Rattle.sm_history.specs.Verdict.{verdict, checks, actor_checks, event_checks, has_place, has_length_room, is_die}
use Rattle.sm_history.specs.Verdict.{outcome_of, answered, places_needed}
use Rattle.sm_history.proofs.Owners.{all_hold}
use Rattle.sm_history.proofs.Sealing.{hold_none}
use Rattle.sm_history.proofs.Turns.{done_in_turn}

-- ---- more slots

more_room : (n places more : ℕ) (dies b c : Bool) → places ≤ more → (dies || (nat_le n places && b && c)) ≡ true
    → (dies || (nat_le n more && b && c)) ≡ true
more_room n places more true b c le all = refl
more_room n places more false b c le all =
    let some = and_parts (nat_le n places && b) c all in
    let both = and_parts (nat_le n places) b some.0 in
    let fits : nat_le n places ≡ true = both.0 in
    let fits_more : nat_le n more ≡ true = grind (arith, nat_tests) in
    rw (fits_more, both.1, some.1) refl

place_more : (places more : ℕ) (h : History) (c : ℕ) (event : Event) → places ≤ more
    → has_place places h c event ≡ true → has_place more h c event ≡ true
place_more places more h c event le =
    more_room (length h.entries + length (live_clients (effects_of h)) + places_needed event) places more (is_die event)
    (has_length_room h event) (counts_fit (after_event (effects_of h) c event)) le

hold_other : (p : Policy) (xs : List Check) (x y : Check) → (holds p x ≡ true → holds p y ≡ true)
    → AllHold p (xs ++ x ∷ []) → AllHold p (xs ++ y ∷ [])
hold_other p [] x y other a = (other a.0, tt)
hold_other p (z ∷ xs) x y other a = (a.0, hold_other p xs x y other a.1)

pub judged_more : (places more : ℕ) (e : Entry) (h : History) → places ≤ more → IsJudged places e h
    → IsJudged more e h
judged_more places more e h le judged =
    let d = effects_of h in
    let p = policy_at d in
    let c = client_of e.by in
    let o = outcome_of d c e.event in
    let all = all_hold p (checks places h e.by e.turn e.event) o e.outcome judged.0 in
    let also : AllHold p (checks more h e.by e.turn e.event) =
    hold_other p (actor_checks h e.by e.turn e.event ++ event_checks d c e.event)
    (Wants (has_place places h c e.event) (IsRefused JournalFull))
    (Wants (has_place more h c e.event) (IsRefused JournalFull)) (place_more places more h c e.event le) all in
    let none = λ (x : Option FailedCheck). answered x o in (
      ap none (hold_none p (checks more h e.by e.turn e.event) also)
          ∙ (sym (ap none (hold_none p (checks places h e.by e.turn e.event) all)) ∙ judged.0),
      judged.1,
    )

-- ---- the same change

module _ (places more : ℕ) (e : Entry) (h : History) (new : Book) (le : places ≤ more) (judged : IsJudged places e h)
  where
    in_turn : e.turn ≡ turn_of h e.by
    in_turn = done_in_turn places h e.by e.turn e.event e.outcome judged.0

    same_entry : entry_made e.by (turn_of h e.by) e.event e.outcome ≡ e
    same_entry = ap (λ (turn : ℕ). entry_made e.by turn e.event e.outcome) (sym in_turn)

    done_again : verdict more h e.by (turn_of h e.by) e.event ≡ Done e.outcome
    done_again = subst (λ (turn : ℕ). verdict more h e.by turn e.event ≡ Done e.outcome) in_turn
        (judged_more places more e h le judged).0

    goes_on : (reply : Reply) → reply ≡ Done e.outcome
        → new ≡ book_after (book_of more h) e.by (turn_of h e.by) e.event reply → new ≡ extended (book_of more h) e
    goes_on reply is goes =
        goes ∙ (ap (λ (r : Reply). book_after (book_of more h) e.by (turn_of h e.by) e.event r) is
        ∙ ap (λ (x : Entry). extended (book_of more h) x) same_entry)

    pub repeats : (reply : Reply) → Steps (book_of more h) e.by (turn_of h e.by) e.event reply new
        → Repeats (book_of more h) e reply new
    repeats reply steps =
        ⊎_elim (λ t. inl t) (λ t. let is = t.0 ∙ done_again in inr (is, goes_on reply is t.1)) steps

pub changes_repeat : (places more : ℕ) (e : Entry) (h : History) (reply : Reply) (new : Book) → places ≤ more
    → IsJudged places e h → Steps (book_of more h) e.by (turn_of h e.by) e.event reply new
    → Repeats (book_of more h) e reply new
changes_repeat places more e h reply new le judged steps = repeats places more e h new le judged reply steps
