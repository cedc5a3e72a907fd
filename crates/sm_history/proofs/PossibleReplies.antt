-- What a Connect, a Die and a Reload may be answered.
use Rattle.std.proofs.Common.{◌≡◌, ℕ, ◌+◌, ◌==◌, ◌&&◌, nat_lt, nat_le, Bool, true, false, [], ◌∷◌, length, arith}
use Rattle.std.proofs.lemmas.Bool.Decides.{nat_tests}
use Rattle.sm_values.specs.declared.identity.Identity.{Identity}
use Rattle.sm_policy.specs.Policy.{Policy}
use Rattle.sm_history.specs.declared.by.By.TheVariants.{Manager, Admin}
use Rattle.sm_history.specs.declared.event.Event.TheVariants.{Connect, Die, Reload}
use Rattle.sm_history.specs.declared.limits.TheConstants.{MOST_CLIENTS, LAST_CLIENT}
use Rattle.sm_history.specs.declared.outcome.Outcome.TheVariants.{Connected, Died, Reloaded}
use Rattle.sm_history.specs.declared.refusal.Refusal.TheVariants.{Failed, TooManyClients, VersionMoved, JournalFull}
use Rattle.sm_history.specs.declared.refusal.Failure.TheVariants.{NotYours, NotConnected, OutOfTurn}
use Rattle.sm_history.specs.EarlyAnswers.{Refused}
use Rattle.sm_history.specs.Clients.{policy_at, version_at, is_live, live_clients, next_client}
use Rattle.sm_history.specs.Checks.{Wants, first_failing}
use Rattle.sm_history.specs.Histories.{History, effects_of, turn_of}
use Rattle.sm_history.specs.Segments.{client}
use Rattle.sm_history.specs.Verdict.{verdict, answered, has_place}
use Rattle.sm_history.specs.PossibleReplies.{ConnectReply, DeathReply, InstallReply}

death_of : (p : Policy) (b c : Bool) (n : ℕ) → DeathReply (answered (first_failing p
    (Wants true (Refused (Failed NotYours)) ∷ Wants b (Refused (Failed NotConnected))
    ∷ Wants c (Refused (Failed (OutOfTurn n))) ∷ Wants true (Refused JournalFull) ∷ [])) Died)
death_of p true true n = tt
death_of p true false n = tt
death_of p false c n = tt

pub death_answer : (places : ℕ) (h : History) (c turn : ℕ) → DeathReply (verdict places h (client c) turn Die)
death_answer places h c turn =
    let n = turn_of h (client c) in
    death_of (policy_at (effects_of h)) (is_live (effects_of h) c) (turn == n) n

install_of : (p : Policy) (c x y : Bool) (n v o : ℕ) → InstallReply (answered (first_failing p
    (Wants true (Refused (Failed NotYours)) ∷ Wants true (Refused (Failed NotConnected))
    ∷ Wants c (Refused (Failed (OutOfTurn n))) ∷ Wants x (Refused (VersionMoved v))
    ∷ Wants y (Refused JournalFull) ∷ [])) (Reloaded o))
install_of p true true true n v o = tt
install_of p true true false n v o = tt
install_of p true false y n v o = tt
install_of p false x y n v o = tt

pub install_answer : (places : ℕ) (h : History) (a turn expected : ℕ) (policy : Policy)
    → InstallReply (verdict places h (Admin (record { 0 = a })) turn (Reload expected policy))
install_answer places h a turn expected policy =
    let d = effects_of h in
    let n = turn_of h (Admin (record { 0 = a })) in
    install_of (policy_at d) (turn == n) (version_at d == expected) (has_place places h 0 (Reload expected policy)) n
    (version_at d) (version_at d + 1)

connect_of : (p : Policy) (c x y : Bool) (n k : ℕ) → c ≡ true → ConnectReply (answered (first_failing p
    (Wants true (Refused (Failed NotYours)) ∷ Wants true (Refused (Failed NotConnected))
    ∷ Wants c (Refused (Failed (OutOfTurn n))) ∷ Wants x (Refused TooManyClients)
    ∷ Wants y (Refused JournalFull) ∷ [])) (Connected (record { 0 = k })))
connect_of p true true true n k is = tt
connect_of p true true false n k is = tt
connect_of p true false y n k is = tt
connect_of p false x y n k is = absurd (cc is)

pub connect_answer : (places : ℕ) (h : History) (who : Identity)
    → ConnectReply (verdict places h Manager (turn_of h Manager) (Connect who))
connect_answer places h who =
    let d = effects_of h in
    let n = turn_of h Manager in
    let yes : (n == n) ≡ true = grind (arith, nat_tests) in
    connect_of (policy_at d) (n == n)
    (nat_lt (length (live_clients d)) MOST_CLIENTS && nat_le (next_client d) LAST_CLIENT)
    (has_place places h 0 (Connect who)) n (next_client d) yes
