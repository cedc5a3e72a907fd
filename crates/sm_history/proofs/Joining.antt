-- From the manager's step that lets a client in, or refuses it, to what a connect promises.
use Rattle.std.proofs.Common.{◌≡◌, inl, inr, ⊎_elim, refl, sym, ap, ◌∙◌, subst, ℕ, arith}
use Rattle.sm_values.specs.declared.identity.Identity.{Identity}
use Rattle.sm_values.specs.declared.number.ClientId.{ClientId}
use Rattle.sm_history.specs.declared.by.By.{By}
use Rattle.sm_history.specs.declared.by.By.TheVariants.{Manager, Client}
use Rattle.sm_history.specs.declared.event.Event.TheVariants.{Connect}
use Rattle.sm_history.specs.declared.outcome.Outcome.TheVariants.{Connected}
use Rattle.sm_history.specs.declared.refusal.Refusal.{Refusal}
use Rattle.sm_history.specs.declared.refusal.Refusal.TheVariants.{Memory}
use Rattle.sm_history.specs.declared.reply.Reply.{Reply}
use Rattle.sm_history.specs.declared.reply.Reply.TheVariants.{Done, Refused}
use Rattle.sm_history.specs.Books.{Book}
use Rattle.sm_history.specs.Histories.{turn_of}
use Rattle.sm_history.specs.Verdict.{verdict}
use Rattle.sm_history.specs.BookOrder.{Begins, extended}
use Rattle.sm_history.specs.Promises.{Joined, Turned}
use Rattle.sm_history.specs.PossibleReplies.{ConnectReply}
use Rattle.sm_history.specs.Steps.{Steps, entry_made}
use Rattle.sm_history.specs.Tokens.{Knows, Sees, token}
use Rattle.sm_history.proofs.BookOrder.{book_through}
use Rattle.sm_history.proofs.PossibleReplies.{connect_answer}

pub connect_answered : (b after : Book) (who : Identity) (due : ℕ) (r : Reply) → due ≡ turn_of b.history Manager
    → Steps b Manager due (Connect who) r after → ConnectReply r
connect_answered b after who due r is s =
    ⊎_elim (λ t. subst ConnectReply (sym t.0) tt) (λ t. rw (t.0, is) (connect_answer b.places b.history who)) s

pub sees_alike : (old new : Knows) (b : Book) (by : By) → Sees old b new
    → Sees (token by old.seen old.reads) b (token by new.seen new.reads)
sees_alike old new b by s =
    let g = s.grows in record {
      grows = record { by = refl; lawful = g.lawful; begins = g.begins; reads = g.reads };
      entered = s.entered;
      is = s.is;
    }

pub joins : (b after : Book) (old between seat : Knows) (who : Identity) (due : ℕ) (c : ClientId)
    → due ≡ turn_of b.history Manager → Steps b Manager due (Connect who) (Done (Connected c)) after
    → Sees old b between → Sees between after seat → Joined old (token (Client c) seat.seen seat.reads) who
joins b after old between seat who due c is s first then =
    ⊎_elim (λ t. absurd (cc t.0)) (λ t. record {
      lawful = then.grows.lawful;
      begins = book_through seat.seen between.seen old.seen then.grows.begins first.grows.begins;
      entered =
          let one = first.entered in
          let more = then.entered in
          omega (arith, one, more);
      before = b;
      begins_before = subst (λ (x : Book). Begins x old.seen) first.is first.grows.begins;
      number = c.0;
      by = refl;
      ends = then.is ∙ (t.1 ∙ ap (λ n. extended b (entry_made Manager n (Connect who) (Connected c))) is);
      verdict_is = sym (t.0 ∙ ap (λ n. verdict b.places b.history Manager n (Connect who)) is);
    }) s

pub turns_away : (b after : Book) (old new : Knows) (who : Identity) (due : ℕ) (refusal : Refusal)
    → due ≡ turn_of b.history Manager → Steps b Manager due (Connect who) (Refused refusal) after
    → Sees old b new → Turned old new who refusal
turns_away b after old new who due refusal is s sees = record {
  grows = sees.grows;
  entered = sees.entered;
  why = ⊎_elim (λ t. inl (unwrapped t.0)) (λ t. inr (
      t.0 ∙ (ap (λ n. verdict b.places b.history Manager n (Connect who)) is
      ∙ ap (λ (x : Book). verdict x.places x.history Manager (turn_of x.history Manager) (Connect who))
      (sym sees.is)))) s;
}
  where
    unwrapped : Refused refusal ≡ Refused Memory → refusal ≡ Memory
    unwrapped h = cc h
