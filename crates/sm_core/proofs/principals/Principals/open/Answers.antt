use Rattle.std.proofs.Common.{ap, ◌∙◌}
use Rattle.sm_policy.specs.Policy.{Policy}
use Rattle.sm_core.specs.Tables.{process_under}
use Rattle.sm_core.proofs.Renumbering.{rows_opened}
use Rattle.sm_core.proofs.principals.Principals.open.Goals as goal

pub returns-clause-stand : goal.returns-clause-stand
returns-clause-stand c d s =
    let p = c.prepared-policy.result.now in
    let is = c.prepared-policy.ensures ∙ s.policy in record {
      manager = c.new.ensures ∙ ap (λ (p : Policy). process_under p c.args.who) is;
      policy = s.policy;
      version = s.version;
      clients = c.renumber.ensures.under
          ∙ rows_opened d c.args.who p c.new.result is c.new.ensures s.clients;
    }
