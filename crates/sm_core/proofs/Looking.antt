-- What a query is answered, and the records that it leaves.
use Rattle.std.proofs.Common.{◌≡◌, inl, inr, ℕ, false, List, [], Some, None, Option, true, refl, sym, ap, ◌∙◌}
use Rattle.std.specs.Prelude.{unwrap_or}
use Rattle.std.proofs.lemmas.Bool.{true≢false}
use Rattle.sm_history.specs.declared.by.By.{By}
use Rattle.sm_history.specs.declared.event.Event.{Event}
use Rattle.sm_history.specs.Verdict.{checks}
use Rattle.sm_history.specs.declared.query.Query.{Query}
use Rattle.sm_history.specs.declared.records.Record.{Record}
use Rattle.sm_history.specs.declared.reply.Reply.{Reply}
use Rattle.sm_history.specs.declared.reply.Reply.TheVariants.{Looked}
use Rattle.sm_history.specs.declared.reply.Answer.{Answer}
use Rattle.sm_history.specs.FailedChecks.{FailedCheck}
use Rattle.sm_history.specs.Books.{Book}
use Rattle.sm_history.specs.Checks.{answer_of, first_failing}
use Rattle.sm_history.specs.Clients.{policy_at}
use Rattle.sm_history.specs.Histories.{History, effects_of}
use Rattle.sm_history.specs.Queries.{checks_of_query, looked}
use Rattle.sm_history.specs.Records.{moment_of, records, query_records}
use Rattle.sm_history.specs.PossibleReplies.{takes_memory}
use Rattle.sm_core.specs.Judging.{Halts, AllPass, IsAskerStop, out_of_memory}
use Rattle.sm_core.specs.Managed.{is_out_of_memory, look_leaves}
use Rattle.sm_history.specs.Promises.{Looks}
use Rattle.sm_core.proofs.Stopping.{answers, failing_is, left_is}
use Rattle.sm_core.proofs.Keeping.{stop_records}

looked_by : (h : History) (q : Query) (o : Option FailedCheck) (r : Reply) → answers o ≡ Some r → r ≡ looked h q o
looked_by h q None r e = cc
looked_by h q (Some s) r e = sym (ap (λ (p : Option Reply). unwrap_or p (answer_of s)) e)

-- A failed allocation isn't why an asker is refused.
asker_stops : {A : Type 0} (r : Reply) → IsAskerStop r → r ≡ out_of_memory → A
asker_stops r (inl is) w = cc
asker_stops r (inr is) w = cc

-- What `look` answers where the judgement stopped.
pub look_stops : (b : Book) (by : By) (q : Query) (new : List Record) (reply : Reply)
    → Halts (moment_of b.history) [] new (checks_of_query b.history by q) reply
    → (takes_memory q ≡ false → IsAskerStop reply) → Looks b by q reply
look_stops b by q new reply (inr e) asker =
    let xs = checks_of_query b.history by q in
    inr (looked_by b.history q (first_failing (policy_at (effects_of b.history)) xs) reply
    (failing_is (moment_of b.history) [] new xs (Some reply) e))
look_stops b by q new reply (inl w) asker =
    elim (takes_memory q) as (λ t. takes_memory q ≡ t → Looks b by q reply) [
      | true ↦ λ takes. inl (w, takes)
      | false ↦ λ none. asker_stops reply (asker none) w
    ] refl

-- The records of a query.
pub query_left : (h : History) (by : By) (q : Query) (new : List Record) (s : Reply)
    → Halts (moment_of h) [] new (checks_of_query h by q) s → is_out_of_memory s ≡ false → new ≡ query_records h by q
query_left h by q new s (inl w) other = absurd (true≢false (sym (ap is_out_of_memory w) ∙ other))
query_left h by q new s (inr e) other = sym (left_is (moment_of h) [] new (checks_of_query h by q) (Some s) e)

pub query_passed : (h : History) (by : By) (q : Query) (new : List Record)
    → AllPass (moment_of h) [] new (checks_of_query h by q) → new ≡ query_records h by q
query_passed h by q new e = sym (left_is (moment_of h) [] new (checks_of_query h by q) None e)

-- These are the records of an event that was refused, unless by a failed allocation.
pub event_left : (places : ℕ) (h : History) (by : By) (turn : ℕ) (event : Event) (new : List Record) (s : Reply)
    → Halts (moment_of h) [] new (checks places h by turn event) s → is_out_of_memory s ≡ false
    → new ≡ records places h by turn event
event_left places h by turn event new s (inl w) other = absurd (true≢false (sym (ap is_out_of_memory w) ∙ other))
event_left places h by turn event new s (inr e) other = stop_records places h by turn event new s e

-- The records that are given with the answer to a query.
pub stop_leaves : (b : Book) (by : By) (q : Query) (new : List Record) (s : Reply)
    → Halts (moment_of b.history) [] new (checks_of_query b.history by q) s → is_out_of_memory s ≡ false
    → new ≡ look_leaves b by q s
stop_leaves b by q new s halts other = rw other (query_left b.history by q new s halts other)

pub found_leaves : (b : Book) (by : By) (q : Query) (v l : ℕ) (a : Answer) (new : List Record) (reply : Reply)
    → new ≡ query_records b.history by q → reply ≡ Looked v l a → new ≡ look_leaves b by q reply
found_leaves b by q v l a new reply e is = rw is e
