use Rattle.std.proofs.Common.{refl}
use Rattle.sm_history.specs.declared.effect.Effect.TheVariants.{Removes}
use Rattle.sm_names.proofs.Others.{same_list}
use Rattle.sm_names.proofs.names.NameTable.remove.Goals as goal

pub returns-clause-tracks : goal.returns-clause-tracks
returns-clause-tracks c d tr = record {
  services = c.remove.ensures.tracks d tr.services;
  watches = same_list (Removes c.args.name.now) d c.args.self.now.watches.list.items refl tr.watches;
  order = tr.order;
}
