-- The owner of a service that was added has connected.
use Rattle.std.proofs.Common.{◌≡◌, ℕ, ◌<◌, true, false, List, [], ◌∷◌, refl, sym, subst, Some, if◌then◌else◌}
use Rattle.std.specs.Prelude.{bytes_eq}
use Rattle.std.proofs.lemmas.Bool.{true≢false}
use Rattle.sm_policy.specs.Policy.{Policy}
pub use Rattle.sm_history.specs.Entering.{AllHold}
use Rattle.sm_history.specs.declared.outcome.Outcome.{Outcome}
use Rattle.sm_history.specs.declared.reply.Reply.TheVariants.{Done}
use Rattle.sm_history.specs.Effects.{Effects, Service, Connects, Adds, Removes, Resumes}
use Rattle.sm_history.specs.Clients.{next_client}
use Rattle.sm_history.specs.Services.{last_said, Silent, Gone, Here, said_or}
use Rattle.sm_history.specs.Checks.{Check, holds, answer_of, first_failing, failed_check_of}
use Rattle.sm_history.specs.FailedChecks.{FailedCheck}
use Rattle.sm_history.specs.EarlyAnswers.{GotNull as IsNull}
use Rattle.sm_history.specs.FailedChecks.{Unmet}
use Rattle.sm_history.specs.Verdict.{answered}
use Rattle.sm_history.proofs.Keeps.{Lasts}
use Rattle.sm_history.specs.Sound.{IsOwned}
use Rattle.std.proofs.Common.{Option, None}

pub not_done : (x : FailedCheck) (outcome : Outcome) → answer_of x ≡ Done outcome → ⊥
not_done (Unmet IsNull) outcome h = cc
not_done _ outcome h = cc

pub none_hold : (p : Policy) (xs : List Check) → first_failing p xs ≡ None → AllHold p xs
none_hold p [] h = tt
none_hold p (x ∷ xs) h =
    elim (holds p x) as (λ b. holds p x ≡ b →
    (let o : Option FailedCheck = if b then first_failing p xs else Some (failed_check_of x) in o) ≡ None →
    (holds p x ≡ true) × AllHold p xs) [
      | true ↦ λ e i. (e, none_hold p xs i)
      | false ↦ λ e i. cc
    ] refl h

none_failing : (x : Option FailedCheck) (o outcome : Outcome) → answered x o ≡ Done outcome → x ≡ None
none_failing None o outcome h = refl
none_failing (Some s) o outcome h = absurd (not_done s outcome h)

-- What is answered Done met every check.
pub all_hold : (p : Policy) (xs : List Check) (o outcome : Outcome) → answered (first_failing p xs) o ≡ Done outcome
    → AllHold p xs
all_hold p xs o outcome h = none_hold p xs (none_failing (first_failing p xs) o outcome h)

pub owned_lasts : Lasts IsOwned
owned_lasts (Connects c who) d plain h = absurd (true≢false (sym plain))
owned_lasts (Adds name s) d plain h = absurd (true≢false (sym plain))
owned_lasts (Removes other) d plain h = λ name s.
    elim (bytes_eq other name) as (λ b. said_or (if b then Gone else Silent) (last_said d name) ≡ Some s →
    s.node.owner.0 < next_client d) [ true ↦ λ e. cc | false ↦ λ e. h name s e ]
owned_lasts (Resumes v n) d plain h = absurd (true≢false (sym plain))
owned_lasts _ d plain h = h

pub add_owned : (d : Effects) (added : List ℕ) (t : Service) → t.node.owner.0 < next_client d → IsOwned d
    → IsOwned (Adds added t ∷ d)
add_owned d added t lt h name s =
    elim (bytes_eq added name) as (λ b. said_or (if b then Here t else Silent) (last_said d name) ≡ Some s →
    s.node.owner.0 < next_client d) [
      | true ↦ λ e. let same : t ≡ s = cc in subst (λ (v : Service). v.node.owner.0 < next_client d) same lt
      | false ↦ λ e. h name s e
    ]
