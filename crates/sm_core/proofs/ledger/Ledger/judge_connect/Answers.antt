use Rattle.std.proofs.Common.{◌≡◌, ◌≤◌, true, ap, ◌∙◌, refl, arith, rules, length, ◌∷◌}
use Rattle.std.specs.Prelude.{nat_lt, nat_le}
use Rattle.std.proofs.lemmas.Bool.Decides.{nat_tests}
use Rattle.std.proofs.lemmas.List.{length-map}
use Rattle.sm_history.specs.Histories.{effects_of}
use Rattle.sm_history.specs.declared.limits.TheConstants.{MOST_CLIENTS, LAST_CLIENT}
use Rattle.sm_history.specs.Clients.{live_clients, next_client}
use Rattle.sm_core.specs.declared.client.LiveClient.{LiveClient}
use Rattle.sm_core.specs.Tables.{client_row}
use Rattle.sm_history.specs.declared.event.Event.TheVariants.{Connect}
use Rattle.sm_history.specs.declared.outcome.Outcome.TheVariants.{Connected}
use Rattle.sm_history.specs.declared.effect.Effect.TheVariants.{Connects}
use Rattle.sm_history.specs.Records.{moment_of}
use Rattle.sm_core.proofs.Drafting.{one_effect}
use Rattle.sm_core.proofs.ledger.Ledger.judge_connect.Goals as goal

pub returns : goal.returns
returns c =
    let d = effects_of c.self.inside.journal.history in
    let rows = ap (length {A = LiveClient}) c.self.invariant.stands.principals.clients ∙
    length-map (live_clients d) (client_row d) in
    let few : length (live_clients d) ≤ 63 = omega (arith, rows) in
    let next = c.self.invariant.stands.next in
    let a : nat_lt (length (live_clients d)) MOST_CLIENTS ≡ true = grind (arith, nat_tests) in
    let b : nat_le (next_client d) LAST_CLIENT ≡ true = let le : next_client d ≤ LAST_CLIENT =
    omega (arith, next) in grind (arith, nat_tests) in
    rw (← c.self.view_is) (rw (a, b) (
      refl,
      one_effect (moment_of c.self.inside.journal.history) d 0 (Connect c.args.who.now) _ _
          (Connects c.self.inside.state.next c.in_ok-who.who) (search rules) (search rules)
          (ap (λ n. Connects n c.in_ok-who.who ∷ d) next ∙
          ap (λ who. Connects (next_client d) who ∷ d) c.in_ok-who.ensures.cases) next
          (ap (λ n. Connected (record { 0 = n })) next) tt,
    ))
