use Rattle.std.proofs.Common.{List, ap, subst, ◌∙◌}
use Rattle.sm_history.specs.Clients.{clients_made}
use Rattle.sm_core.specs.declared.client.LiveClient.{LiveClient}
use Rattle.sm_core.specs.declared.process.Process.{Process}
use Rattle.sm_core.specs.Listed.{AreListed}
use Rattle.sm_core.proofs.ListedTables.{before_next, tracks_clients}
use Rattle.sm_core.proofs.listing.tables_of.Goals as goal

pub returns : goal.returns
returns c d s = record {
  manager = c.in_ok-clone.ensures.cases ∙ ap (λ (p : Process). p.who) s.principals.manager;
  policy = c.in_ok-share.ensures.same ∙ c.prepared.ensures ∙ s.principals.policy;
  version = s.principals.version;
  clients = before_next c.args.state.now.next (clients_made d) c.saturating_sub.result s.next
      c.saturating_sub.ensures;
  live = tracks_clients d c.args.state.now.principals.clients.items c.in_ok-listed_clients.field-0.items
      s.principals.clients
      (subst (λ (rs : List LiveClient). AreListed d rs c.in_ok-listed_clients.field-0.items) c.deref.ensures.value
      (c.in_ok-listed_clients.ensures d s.grants s.inboxes));
  names = c.in_ok-listed.ensures d (c.services.ensures d s.names);
  watches = c.in_ok-listed_watches.ensures d s.names;
}
