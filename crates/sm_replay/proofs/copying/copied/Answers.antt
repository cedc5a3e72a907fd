use Rattle.std.proofs.Common.{ap, ◌∙◌, Option}
use Rattle.sm_values.specs.declared.identity.Identity.{Identity}
use Rattle.sm_policy.specs.Policy.{Policy}
use Rattle.sm_history.specs.Tables.{manager_of, policy_of}
use Rattle.sm_replay.proofs.SameTables.{clients_copied}
use Rattle.sm_replay.proofs.copying.copied.Goals as goal

pub returns : goal.returns
returns c d tr =
    record {
      manager = ap (λ (o : Option Identity). manager_of o) c.in_ok-manager.ensures ∙ tr.manager;
      policy = ap (λ (o : Option Policy). policy_of o) c.in_ok-policy.ensures ∙ tr.policy;
      version = tr.version;
      clients = tr.clients;
      live = clients_copied d c.args.tables.now.live.items c.in_ok-live.live.items
          (rw c.deref.ensures.value at c.in_ok-live.ensures) tr.live;
      names = rw (c.in_ok-names.ensures, c.deref-2.ensures.value) tr.names;
      watches = c.in_ok-watches.ensures ∙ c.deref-3.ensures.value ∙ tr.watches;
    }
