use Rattle.std.proofs.Common.{ap, sym, ◌∙◌, ◌++◌, ◌∷◌, []}
use Rattle.sm_history.specs.Clients.{manager_at, policy_at}
use Rattle.sm_core.specs.Tables.{row_of}
use Rattle.sm_core.proofs.Connecting.{clients_connects, row_added}
use Rattle.sm_core.proofs.Renumbering.{row_made, stands_under}
use Rattle.sm_core.proofs.principals.Principals.connect.Goals as goal

pub returns-clause-stand : goal.returns-clause-stand
returns-clause-stand c d sound next s =
    let p = c.prepared.result.now in
    let is = c.prepared.ensures ∙ s.policy in
    let m = c.args.self.now.manager in record {
      manager = s.manager;
      policy = s.policy;
      version = s.version;
      clients = c.push_reserved.ensures.items
          ∙ row_added c.args.self.now.clients.items (c.new-row.ensures (stands_under d p m s.manager is)
          ∙ row_made d p m c.args.client c.args.who s.manager is)
          ∙ ap (λ rs. rs ++ row_of (policy_at d) (manager_at d) c.args.client c.args.who ∷ []) s.clients
          ∙ sym (clients_connects d c.args.client c.args.who next sound);
    }
