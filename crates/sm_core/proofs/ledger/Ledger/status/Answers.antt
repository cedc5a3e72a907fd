use Rattle.std.proofs.Common.{◌≡◌, List, refl, ap, sym, subst, ◌∙◌, map}
use Rattle.sm_history.specs.Clients.{live_clients, policy_at}
use Rattle.sm_history.specs.Histories.{effects_of}
use Rattle.sm_status.specs.States.{client_state}
use Rattle.sm_core.specs.declared.client.LiveClient.{LiveClient}
use Rattle.sm_core.specs.Managed.{Ledgered}
use Rattle.sm_core.specs.Statuses.{row_status}
use Rattle.sm_core.proofs.Small.{small_length}
use Rattle.sm_core.proofs.Statuses.{clients_told, names_told}
use Rattle.sm_core.proofs.ledger.Ledger.status.Goals as goal

pub history_length-requires : goal.history_length-requires
history_length-requires c = small_length _ _ _ _ c.self.invariant

pub returns : goal.returns
returns c =
    let k = c.self.invariant in
    let h = c.self.inside.journal.history in
    let d = effects_of h in
    let policy : c.in_ok-share.field-0 ≡ policy_at d =
    c.in_ok-share.ensures.same ∙ c.prepared.ensures ∙ k.stands.principals.policy in
    let told : c.in_ok-client_statuses.field-0.items ≡ map (row_status h) c.deref.result.now =
    subst (λ (l : Ledgered). c.in_ok-client_statuses.field-0.items
    ≡ map (row_status l.book.history) c.deref.result.now) (sym c.self.view_is) c.in_ok-client_statuses.ensures in
    let clients : c.in_ok-client_statuses.field-0.items ≡ map (client_state h) (live_clients d) =
    told ∙ ap (map (row_status h)) c.deref.ensures.value
    ∙ clients_told h c.self.inside.state.principals.clients.items k.stands.principals.clients in
    let names = names_told d c.in_ok-listed.field-0.items (c.in_ok-listed.ensures d (c.services.ensures d k.stands.names)) in
    let watches = c.in_ok-listed_watches.ensures d k.stands.names in
    rw (← c.self.view_is)
    (rw (
      k.stands.principals.version,
      c.history_length.ensures,
      c.saturating_sub.ensures,
      c.number.ensures,
      c.entry_count.ensures,
      policy,
      clients,
      names,
      watches,
    ) refl)
