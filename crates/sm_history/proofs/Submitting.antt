-- From one step of the manager, and the book that is seen after it, to what a call promises.
use Rattle.std.proofs.Common.{◌≡◌, ◌≢◌, ◌⊎◌, ◌+◌, true, false, true≢false, inl, inr, refl, sym, ap, ◌∙◌, subst, ⊎_elim}
use Rattle.sm_history.specs.declared.event.Event.{Event}
use Rattle.sm_history.specs.declared.outcome.Outcome.{Outcome}
use Rattle.sm_history.specs.declared.refusal.Refusal.{Refusal}
use Rattle.sm_history.specs.declared.refusal.Refusal.TheVariants.{Failed, Memory}
use Rattle.sm_history.specs.declared.refusal.Failure.TheVariants.{NotYours}
use Rattle.sm_history.specs.declared.reply.Reply.{Reply}
use Rattle.sm_history.specs.declared.reply.Reply.TheVariants.{Done, Refused}
use Rattle.sm_history.specs.Books.{Book}
use Rattle.sm_history.specs.Histories.{turn_of}
use Rattle.sm_history.specs.Verdict.{verdict}
use Rattle.sm_history.specs.BookOrder.{Begins, extended}
use Rattle.sm_history.specs.Promises.{Accepted, NotDone, NotMade, Submitted}
use Rattle.sm_history.specs.PossibleReplies.{moves, tells_turn}
use Rattle.sm_history.specs.Steps.{Steps, entry_made}
use Rattle.sm_history.specs.Tokens.{Knows, Sees, turn}
use Rattle.sm_history.proofs.BookOrder.{one_more, before_change}
use Rattle.sm_history.proofs.Turns.{done_in_turn, out_of_turn, others_in_turn, not_yours}

module _ (b after : Book) (old new : Knows) (event : Event) (sees : Sees old after new) where
  done : (o : Outcome) → Done o ≡ verdict b.places b.history old.by (turn old) event
      → after ≡ extended b (entry_made old.by (turn old) event o) → Accepted old new event o
  done o v goes =
      let e = entry_made old.by (turn old) event o in
      let in_order : turn old ≡ turn_of b.history old.by =
      done_in_turn b.places b.history old.by (turn old) event o (sym v) in
      let grows = sees.grows in
      let is : new.seen ≡ extended b e = sees.is ∙ goes in record {
        grows = grows;
        entered = sees.entered;
        before = b;
        begins = before_change b old.seen e (subst (λ (x : Book). Begins x old.seen) is grows.begins) in_order;
        ends = is;
        verdict_is = sym v;
        one_more = (λ i. turn_of (is i).history (grows.by i)) ∙ (one_more b e ∙ ap (λ k. k + 1) (sym in_order));
      }

  counted : after ≡ b → turn new ≡ turn_of b.history old.by
  counted same i = turn_of ((sees.is ∙ same) i).history (sees.grows.by i)

  kept : (r : Reply) → r ≢ Refused (Failed NotYours) → r ≡ verdict b.places b.history old.by (turn old) event
      → after ≡ b → NotDone old new event r
  kept r not v same = record {
    grows = sees.grows;
    entered = sees.entered;
    verdict_is =
        v ∙ ap (λ (x : Book). verdict x.places x.history old.by (turn old) event) (sym (sees.is ∙ same));
    same_turn = λ tells. counted same ∙ sym (others_in_turn b.places b.history old.by (turn old) event
        (λ h. not (v ∙ h))
        (λ h. true≢false (sym tells ∙ ap tells_turn (v ∙ h)))
        (λ n h. true≢false (sym tells ∙ ap tells_turn (v ∙ h))));
    out_of_turn = λ have is.
        let t = out_of_turn b.places b.history old.by (turn old) event have (sym v ∙ is) in
        (t.0 ∙ sym (counted same), λ h. t.1 (sym h ∙ t.0));
  }

  -- No change was made, and the token saw the book that gave the answer.
  not_made : (r : Reply) → moves r ≡ true
      → ((r ≡ Refused Memory) × (after ≡ b))
      ⊎ ((r ≡ verdict b.places b.history old.by (turn old) event) × (after ≡ b))
      → NotMade old new event r
  not_made r m s =
      ⊎_elim
      (λ t. absurd (true≢false (sym m ∙ ap moves t.0)))
      (λ t. inr (inr (kept r (λ h. true≢false (sym m ∙ ap moves h)) t.0 t.1)))
      s

  pub submitted : (r : Reply) → moves r ≡ true → Steps b old.by (turn old) event r after → Submitted old new event r
  submitted (Done o) m s = ⊎_elim (λ t. absurd (cc t.0)) (λ t. done o t.0 t.1) s
  submitted r m s = not_made r m s

-- The token stays as it is if an allocation failed, or if the event isn't its actor's, which each history refuses in
-- the same way.
stays : (b after : Book) (old : Knows) (event : Event) (r : Refusal) → (r ≡ Memory) ⊎ (r ≡ Failed NotYours)
    → Steps b old.by (turn old) event (Refused r) after → NotMade old old event (Refused r)
stays b after old event r which s =
    ⊎_elim
    (λ memory. inl (ap Refused memory, refl))
    (λ yours. ⊎_elim (λ t. inl (t.0, refl)) (λ t. inr (inl (record {
      reply_is = ap Refused yours;
      verdict_is = ap Refused yours
          ∙ sym (not_yours b old.seen old.by (turn old) (turn old) event (sym t.0 ∙ ap Refused yours));
      same = refl;
    }))) s)
    which

which_stays : (r : Refusal) → moves (Refused r) ≡ false → (r ≡ Memory) ⊎ (r ≡ Failed NotYours)
which_stays Memory m = inl refl
which_stays (Failed NotYours) m = inr refl
which_stays _ m = absurd (true≢false m)

pub unseen : (b after : Book) (old : Knows) (event : Event) (r : Reply) → moves r ≡ false
    → Steps b old.by (turn old) event r after → Submitted old old event r
unseen b after old event (Refused r) m s = stays b after old event r (which_stays r m) s
unseen b after old event _ m s = absurd (true≢false m)
