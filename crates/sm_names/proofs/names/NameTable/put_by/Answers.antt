use Rattle.std.proofs.Common.{refl}
use Rattle.sm_history.specs.declared.effect.Effect.TheVariants.{Adds}
use Rattle.sm_names.proofs.Others.{same_list}
use Rattle.sm_names.proofs.names.NameTable.put_by.Goals as goal

pub returns-clause-tracks : goal.returns-clause-tracks
returns-clause-tracks c d tr live = record {
  services = c.put_by.ensures.tracks d tr.services live;
  watches = same_list (Adds c.args.name c.args.service) d c.args.self.now.watches.list.items refl tr.watches;
  order = tr.order;
}
