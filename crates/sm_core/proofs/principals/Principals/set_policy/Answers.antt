use Rattle.std.proofs.Common.{◌+◌, ap, ◌∙◌}
use Rattle.sm_core.specs.declared.process.Process.{Process}
use Rattle.sm_core.specs.Tables.{process_under}
use Rattle.sm_core.proofs.Renumbering.{rows_set}
use Rattle.sm_core.proofs.principals.Principals.set_policy.Goals as goal

pub returns-clause-stand : goal.returns-clause-stand
returns-clause-stand c d s = record {
  manager = c.renumber.ensures ∙ ap (λ (p : Process). process_under c.args.policy p.who) s.manager;
  policy = c.replace.ensures;
  version = ap (λ n. n + 1) s.version;
  clients = c.renumber-2.ensures.under
      ∙ rows_set d c.args.policy c.args.self.now.manager c.renumber.new.self c.renumber.ensures s.manager s.clients;
}
