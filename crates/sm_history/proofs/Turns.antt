-- What a verdict says of the actor's turn.
use Rattle.std.proofs.Common.{◌≡◌, ◌≢◌, ℕ, ◌==◌, ◌++◌, Bool, true, false, List, [], ◌∷◌, Option, Some, None, refl, sym}
use Rattle.std.proofs.Common.{ap, ◌∙◌, arith, if◌then◌else◌}
use Rattle.std.specs.List.{list_all}
use Rattle.std.proofs.lemmas.Bool.{true≢false, and_parts}
use Rattle.std.proofs.lemmas.Bool.Decides.{nat_tests}
use Rattle.sm_values.specs.declared.number.ObjRef.{ObjRef}
use Rattle.sm_values.specs.declared.number.ObjRef.TheVariants.{Null as NullRef}
use Rattle.sm_policy.specs.Policy.{Policy}
use Rattle.sm_history.specs.declared.by.By.{By}
use Rattle.sm_history.specs.declared.event.Event.{Event}
use Rattle.sm_history.specs.declared.event.Event.TheVariants.{Add, Get, Unregister, Call}
use Rattle.sm_history.specs.declared.outcome.Outcome.{Outcome}
use Rattle.sm_history.specs.declared.refusal.Refusal.TheVariants.{Failed}
use Rattle.sm_history.specs.declared.refusal.Failure.TheVariants.{NotYours, NotConnected, OutOfTurn}
use Rattle.sm_history.specs.declared.reply.Reply.{Reply}
use Rattle.sm_history.specs.declared.reply.Reply.TheVariants.{Done, Refused}
use Rattle.sm_history.specs.EarlyAnswers.{Refused as IsRefused}
use Rattle.sm_history.specs.declared.service.Service.{Service}
use Rattle.sm_history.specs.Books.{Book}
use Rattle.sm_history.specs.Effects.{Effects}
use Rattle.sm_history.specs.Clients.{policy_at}
use Rattle.sm_history.specs.Services.{service_at}
use Rattle.sm_history.specs.Holdings.{node_at}
use Rattle.sm_history.specs.Checks.{Check, Needs, Spares, Wants, holds, failed_check_of, answer_of, early_reply}
use Rattle.sm_history.specs.Checks.{first_failing}
use Rattle.sm_history.specs.Histories.{History, effects_of, turn_of, client_of, found}
use Rattle.sm_history.specs.Verdict.{verdict, answered, is_theirs, is_there, outcome_of, handing_checks}
use Rattle.sm_history.specs.Verdict.{passes_to_client, all_pass_to_client}
use Rattle.sm_history.specs.Records.{records}
use Rattle.sm_history.proofs.Passed.{actor_done, later_checks}
use Rattle.sm_history.proofs.Balanced.{number_same}
use Rattle.std.proofs.lemmas.List.Folds.{list_all-append}

-- ---- the checks behind those of the actor

-- Whether an answer comes from behind the checks of the actor.
abbrev settles : Reply → Bool
settles (Refused (Failed NotYours)) = false
settles (Refused (Failed NotConnected)) = false
settles (Refused (Failed (OutOfTurn n))) = false
settles _ = true

abbrev plain : Check → Bool
plain (Wants ok instead) = settles (early_reply instead)
plain _ = true

plain_answer : (x : Check) → plain x ≡ true → settles (answer_of (failed_check_of x)) ≡ true
plain_answer (Needs class perm who target name) h = refl
plain_answer (Spares ok denial who name) h = refl
plain_answer (Wants ok instead) h = h

first_plain : (p : Policy) (xs : List Check) (o : Outcome) → list_all plain xs ≡ true
    → settles (answered (first_failing p xs) o) ≡ true
first_plain p [] o all = refl
first_plain p (x ∷ xs) o all =
    elim (holds p x)
    as (λ b. settles (answered (if b then first_failing p xs else Some (failed_check_of x)) o) ≡ true) [
      | true ↦ first_plain p xs o (and_parts (plain x) (list_all plain xs) all).1
      | false ↦ plain_answer x (and_parts (plain x) (list_all plain xs) all).0
    ]

append_plain : (xs ys : List Check) → list_all plain xs ≡ true → list_all plain ys ≡ true
    → list_all plain (xs ++ ys) ≡ true
append_plain xs ys a b = rw (list_all-append plain xs ys, a, b) refl

handing_plain : (d : Effects) (c : ℕ) (s : Option Service) → list_all plain (handing_checks d c s) ≡ true
handing_plain d c None = refl
handing_plain d c (Some s) = refl

passes_plain : (d : Effects) (c k : ℕ) (r : ObjRef) → list_all plain (passes_to_client d c k r) ≡ true
passes_plain d c k NullRef = refl
passes_plain d c k _ = refl

all_pass_plain : (d : Effects) (c k : ℕ) (rs : List ObjRef) → list_all plain (all_pass_to_client d c k rs) ≡ true
all_pass_plain d c k [] = refl
all_pass_plain d c k (r ∷ rs) = append_plain (passes_to_client d c k r) (all_pass_to_client d c k rs)
    (passes_plain d c k r) (all_pass_plain d c k rs)

later_plain : (places : ℕ) (h : History) (by : By) (event : Event)
    → list_all plain (later_checks places h by event) ≡ true
later_plain places h by (Add name NullRef allow dump) = refl
later_plain places h by (Get name) =
    let d = effects_of h in
    let c = client_of by in
    append_plain (handing_checks d c (service_at d name)) _ (handing_plain d c (service_at d name)) refl
later_plain places h by (Unregister name NullRef) = refl
later_plain places h by (Call handle payload refs) =
    let d = effects_of h in
    let c = client_of by in
    let k = (found (node_at d c handle)).owner.0 in
    append_plain (all_pass_to_client d c k refs ++ _ ∷ []) _
    (append_plain (all_pass_to_client d c k refs) (_ ∷ []) (all_pass_plain d c k refs) refl) refl
later_plain places h by _ = refl

-- ---- the checks of the actor, by whether each is met

module _ (p : Policy) (have : ℕ) (rest : List Check) (o : Outcome) where
  abbrev chosen : Bool → Bool → Bool → Reply
  chosen a b c = answered (first_failing p (Wants a (IsRefused (Failed NotYours))
      ∷ Wants b (IsRefused (Failed NotConnected)) ∷ Wants c (IsRefused (Failed (OutOfTurn have))) ∷ rest)) o

  out_of : (a b c : Bool) (n : ℕ) → list_all plain rest ≡ true → chosen a b c ≡ Refused (Failed (OutOfTurn n))
      → (n ≡ have) × (c ≡ false)
  out_of true true true n all h = absurd (true≢false (sym (first_plain p rest o all) ∙ ap settles h))
  out_of true true false n all h = (cc h, refl)
  out_of true false c n all h = absurd (cc h)
  out_of false b c n all h = absurd (cc h)

  in_of : (a b c : Bool) → chosen a b c ≢ Refused (Failed NotYours) → chosen a b c ≢ Refused (Failed NotConnected)
      → chosen a b c ≢ Refused (Failed (OutOfTurn have)) → c ≡ true
  in_of true true true x y z = refl
  in_of true true false x y z = absurd (z refl)
  in_of true false c x y z = absurd (y refl)
  in_of false b c x y z = absurd (x refl)

  yours_of : (a b c : Bool) → list_all plain rest ≡ true → chosen a b c ≡ Refused (Failed NotYours) → a ≡ false
  yours_of true true true all h = absurd (true≢false (sym (first_plain p rest o all) ∙ ap settles h))
  yours_of true true false all h = absurd (cc h)
  yours_of true false c all h = absurd (cc h)
  yours_of false b c all h = refl

  refused_of : (a b c : Bool) → a ≡ false → chosen a b c ≡ Refused (Failed NotYours)
  refused_of true b c is = absurd (true≢false is)
  refused_of false b c is = refl

-- ---- the turn

-- What is done has the turn of its actor.
pub done_in_turn : (places : ℕ) (h : History) (by : By) (turn : ℕ) (event : Event) (outcome : Outcome)
    → verdict places h by turn event ≡ Done outcome → turn ≡ turn_of h by
done_in_turn places h by turn event outcome done =
    number_same turn (turn_of h by) (actor_done places h by turn event outcome done).2

-- An event is out of turn where its actor made another number of changes, which is the answer.
pub out_of_turn : (places : ℕ) (h : History) (by : By) (turn : ℕ) (event : Event) (n : ℕ)
    → verdict places h by turn event ≡ Refused (Failed (OutOfTurn n)) → (n ≡ turn_of h by) × (turn ≢ turn_of h by)
out_of_turn places h by turn event n is =
    let d = effects_of h in
    let t = out_of (policy_at d) (turn_of h by) (later_checks places h by event) (outcome_of d (client_of by) event)
    (is_theirs by event) (is_there d by) (turn == turn_of h by) n (later_plain places h by event) is in
    let apart : (turn == turn_of h by) ≡ false = t.1 in (
      t.0,
      λ same.
          let yes : (turn == turn_of h by) ≡ true = grind (arith, nat_tests) in
          true≢false (sym yes ∙ apart),
    )

-- Any other answer but those that come before it has the event in turn.
pub others_in_turn : (places : ℕ) (h : History) (by : By) (turn : ℕ) (event : Event)
    → verdict places h by turn event ≢ Refused (Failed NotYours)
    → verdict places h by turn event ≢ Refused (Failed NotConnected)
    → ((n : ℕ) → verdict places h by turn event ≢ Refused (Failed (OutOfTurn n))) → turn ≡ turn_of h by
others_in_turn places h by turn event x y z =
    let d = effects_of h in
    number_same turn (turn_of h by)
    (in_of (policy_at d) (turn_of h by) (later_checks places h by event) (outcome_of d (client_of by) event)
    (is_theirs by event) (is_there d by) (turn == turn_of h by) x y (z (turn_of h by)))

-- An event that isn't its actor's is refused alike on each history.
pub not_yours : (a b : Book) (by : By) (turn other : ℕ) (event : Event)
    → verdict a.places a.history by turn event ≡ Refused (Failed NotYours)
    → verdict b.places b.history by other event ≡ Refused (Failed NotYours)
not_yours a b by turn other event is =
    let d = effects_of a.history in
    let k = effects_of b.history in
    refused_of (policy_at k) (turn_of b.history by) (later_checks b.places b.history by event)
    (outcome_of k (client_of by) event) (is_theirs by event) (is_there k by) (other == turn_of b.history by)
    (yours_of (policy_at d) (turn_of a.history by) (later_checks a.places a.history by event)
    (outcome_of d (client_of by) event) (is_theirs by event) (is_there d by) (turn == turn_of a.history by)
    (later_plain a.places a.history by event) is)

-- It leaves no record in any history.
pub not_yours_leaves : (a b : Book) (by : By) (turn other : ℕ) (event : Event)
    → verdict a.places a.history by turn event ≡ Refused (Failed NotYours)
    → records b.places b.history by other event ≡ []
not_yours_leaves a b by turn other event is =
    let d = effects_of a.history in
    let isnt : is_theirs by event ≡ false =
    yours_of (policy_at d) (turn_of a.history by) (later_checks a.places a.history by event)
    (outcome_of d (client_of by) event) (is_theirs by event) (is_there d by) (turn == turn_of a.history by)
    (later_plain a.places a.history by event) is in
    rw isnt refl
