use Rattle.std.proofs.Common.{ap, sym, ◌∙◌}
use Rattle.std.specs.Prelude.{filter, not, ◌==◌}
use Rattle.sm_core.specs.declared.client.LiveClient.{LiveClient}
use Rattle.sm_core.proofs.Dying.{clients_dies}
use Rattle.sm_core.proofs.principals.Principals.remove_client.Goals as goal

pub returns-clause-stand : goal.returns-clause-stand
returns-clause-stand c d s = record {
  manager = s.manager;
  policy = s.policy;
  version = s.version;
  clients = c.drop_client.ensures.gone ∙ ap (filter (λ (r : LiveClient). not (c.args.client == r.id))) s.clients
      ∙ sym (clients_dies d c.args.client);
}
