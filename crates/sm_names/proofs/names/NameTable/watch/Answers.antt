use Rattle.std.proofs.Common.{refl}
use Rattle.sm_history.specs.declared.effect.Effect.TheVariants.{Watches}
use Rattle.sm_names.proofs.Others.{same_rows}
use Rattle.sm_names.proofs.names.NameTable.watch.Goals as goal

pub returns-clause-tracks : goal.returns-clause-tracks
returns-clause-tracks c d tr live = record {
  services = same_rows (Watches c.args.watch) d c.args.self.now.services.rows.items (λ name. refl) tr.services;
  watches = (rw c.apart-by_name.ensures.0 at c.add.ensures.tracks d tr.watches) live;
  order = (rw c.apart-by_name.ensures.1 at c.append_watch.ensures.tracks d tr.order) live;
}
