-- What a client's Die and an administrator's Reload are answered.
use Rattle.std.proofs.Common.{◌≡◌, ⊎_elim, sym, subst, ℕ}
use Rattle.sm_values.specs.declared.number.AdminId.{AdminId}
use Rattle.sm_values.specs.declared.number.ClientId.{ClientId}
use Rattle.sm_policy.specs.Policy.{Policy}
use Rattle.sm_history.specs.declared.by.By.TheVariants.{Client, Admin}
use Rattle.sm_history.specs.declared.event.Event.{Event}
use Rattle.sm_history.specs.declared.event.Event.TheVariants.{Die, Reload}
use Rattle.sm_history.specs.declared.reply.Reply.{Reply}
use Rattle.sm_history.specs.declared.reply.Reply.TheVariants.{Done, Refused}
use Rattle.sm_history.specs.declared.refusal.Refusal.TheVariants.{Memory}
use Rattle.sm_history.specs.Books.{Book}
use Rattle.sm_history.specs.Verdict.{verdict}
use Rattle.sm_history.specs.Promises.{Submitted, NotMade}
use Rattle.sm_history.specs.PossibleReplies.{DeathReply, InstallReply}
use Rattle.sm_history.specs.Tokens.{Knows, turn}
use Rattle.sm_history.proofs.PossibleReplies.{death_answer, install_answer}
use Rattle.sm_history.specs.declared.by.By.{By}

-- What holds of a failed allocation and of each verdict holds of the answer.
module _ (Of : Reply → Type 0) (old new : Knows) (event : Event) (memory : Of (Refused Memory))
    (verdicts : (b : Book) → Of (verdict b.places b.history old.by (turn old) event)) where
  not_made : (r : Reply) → NotMade old new event r → Of r
  not_made r s =
      ⊎_elim
      (λ t. subst Of (sym t.0) memory)
      (λ t. ⊎_elim
      (λ n. subst Of (sym n.verdict_is) (verdicts old.seen))
      (λ k. subst Of (sym k.verdict_is) (verdicts new.seen))
      t)
      s

  of_submitted : (r : Reply) → Submitted old new event r → Of r
  of_submitted (Done o) s = subst Of s.verdict_is (verdicts s.before)
  of_submitted r s = not_made r s

pub death_answered : (old new : Knows) (c : ClientId) (r : Reply) → old.by ≡ Client c → Submitted old new Die r
    → DeathReply r
death_answered old new c r is s =
    of_submitted DeathReply old new Die tt
    (λ b. subst (λ (by : By). DeathReply (verdict b.places b.history by (turn old) Die)) (sym is)
    (death_answer b.places b.history c.0 (turn old))) r s

pub install_answered : (old new : Knows) (a : AdminId) (expected : ℕ) (policy : Policy) (r : Reply) → old.by ≡ Admin a
    → Submitted old new (Reload expected policy) r → InstallReply r
install_answered old new a expected policy r is s =
    of_submitted InstallReply old new (Reload expected policy) tt
    (λ b. subst (λ (by : By). InstallReply (verdict b.places b.history by (turn old) (Reload expected policy))) (sym is)
    (install_answer b.places b.history a.0 (turn old) expected policy)) r s
