-- From one step of the manager, and the book that is seen after it, to the records that come with its answer.
use Rattle.std.proofs.Common.{◌≡◌, ◌⊎◌, true, false, true≢false, List, refl, sym, ◌∙◌, subst, ⊎_elim}
use Rattle.sm_history.specs.declared.event.Event.{Event}
use Rattle.sm_history.specs.declared.outcome.Outcome.{Outcome}
use Rattle.sm_history.specs.declared.records.Record.{Record}
use Rattle.sm_history.specs.declared.refusal.Refusal.{Refusal}
use Rattle.sm_history.specs.declared.refusal.Refusal.TheVariants.{Failed, Memory}
use Rattle.sm_history.specs.declared.refusal.Failure.TheVariants.{NotYours}
use Rattle.sm_history.specs.declared.reply.Reply.{Reply}
use Rattle.sm_history.specs.declared.reply.Reply.TheVariants.{Done, GotNull, GotOwn, Looked, Sealed, Refused}
use Rattle.sm_history.specs.Books.{Book}
use Rattle.sm_history.specs.Verdict.{verdict}
use Rattle.sm_core.specs.Managed.{step_leaves}
use Rattle.sm_history.specs.BookOrder.{Begins}
use Rattle.sm_history.specs.PossibleReplies.{moves}
use Rattle.sm_history.specs.Steps.{Steps, book_after, entry_made}
use Rattle.sm_history.specs.Tokens.{Knows, Sees, turn}
use Rattle.sm_history.proofs.BookOrder.{before_change, book_itself}
use Rattle.sm_history.proofs.Turns.{done_in_turn, not_yours_leaves}
use Rattle.sm_door.specs.Logged.{Logged}

module _ (b after : Book) (old new : Knows) (event : Event) (sees : Sees old after new) (log : List Record) where
  logged_done : (o : Outcome) → Done o ≡ verdict b.places b.history old.by (turn old) event
      → after ≡ book_after b old.by (turn old) event (Done o)
      → log ≡ step_leaves b old.by (turn old) event (Done o) → Logged old new event (Done o) log
  logged_done o v goes left = record {
    before = b;
    begins = before_change b old.seen (entry_made old.by (turn old) event o)
        (subst (λ (x : Book). Begins x old.seen) (sees.is ∙ goes) sees.grows.begins)
        (done_in_turn b.places b.history old.by (turn old) event o (sym v));
    ends = sees.is ∙ goes;
    records = left;
  }

  -- The book is the same after an answer that isn't Done.
  settled : (r : Reply) → moves r ≡ true → b ≡ book_after b old.by (turn old) event r
      → ((r ≡ Refused Memory) × (after ≡ b)) ⊎ ((r ≡ verdict b.places b.history old.by (turn old) event) × (after ≡ b))
      → log ≡ step_leaves b old.by (turn old) event r → Logged old new event r log
  settled r m same s left =
      let is : after ≡ b = ⊎_elim (λ t. t.1) (λ t. t.1) s in record {
        before = b;
        begins = subst (λ (x : Book). Begins x old.seen) (sees.is ∙ is) sees.grows.begins;
        ends = sees.is ∙ is ∙ same;
        records = left;
      }

  pub logged : (r : Reply) → moves r ≡ true → Steps b old.by (turn old) event r after
      → log ≡ step_leaves b old.by (turn old) event r → Logged old new event r log
  logged (Done o) m s left = ⊎_elim (λ t. absurd (cc t.0)) (λ t. logged_done o t.0 t.1 left) s
  logged GotNull m s left = settled GotNull m refl s left
  logged (GotOwn o) m s left = settled (GotOwn o) m refl s left
  logged (Looked v l a) m s left = settled (Looked v l a) m refl s left
  logged (Sealed n l) m s left = settled (Sealed n l) m refl s left
  logged (Refused r) m s left = settled (Refused r) m refl s left

-- The token stays as it is: then there is no record.
stays_logged : (b after : Book) (old : Knows) (event : Event) (log : List Record) (r : Refusal)
    → moves (Refused r) ≡ false → Steps b old.by (turn old) event (Refused r) after
    → log ≡ step_leaves b old.by (turn old) event (Refused r) → Logged old old event (Refused r) log
stays_logged b after old event log Memory m s left = record {
  before = old.seen;
  begins = book_itself old.seen;
  ends = refl;
  records = left;
}
stays_logged b after old event log (Failed NotYours) m s left =
    let v : verdict b.places b.history old.by (turn old) event ≡ Refused (Failed NotYours) =
    ⊎_elim (λ t. absurd (cc t.0)) (λ t. sym t.0) s in record {
      before = old.seen;
      begins = book_itself old.seen;
      ends = refl;
      records = left ∙ not_yours_leaves b b old.by (turn old) (turn old) event v
          ∙ sym (not_yours_leaves b old.seen old.by (turn old) (turn old) event v);
    }
stays_logged b after old event log _ m s left = absurd (true≢false m)

pub logged_unseen : (b after : Book) (old : Knows) (event : Event) (log : List Record) (r : Reply) → moves r ≡ false
    → Steps b old.by (turn old) event r after → log ≡ step_leaves b old.by (turn old) event r
    → Logged old old event r log
logged_unseen b after old event log (Refused r) m s left = stays_logged b after old event log r m s left
logged_unseen b after old event log (Done o) m s left = absurd (true≢false m)
logged_unseen b after old event log GotNull m s left = absurd (true≢false m)
logged_unseen b after old event log (GotOwn o) m s left = absurd (true≢false m)
logged_unseen b after old event log (Looked v l a) m s left = absurd (true≢false m)
logged_unseen b after old event log (Sealed n l) m s left = absurd (true≢false m)
