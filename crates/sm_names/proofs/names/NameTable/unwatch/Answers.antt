use Rattle.std.proofs.Common.{refl}
use Rattle.sm_history.specs.declared.effect.Effect.TheVariants.{Unwatches}
use Rattle.sm_history.specs.Histories.{watch as make_watch}
use Rattle.sm_names.proofs.Others.{same_rows}
use Rattle.sm_names.proofs.names.NameTable.unwatch.Goals as goal

pub returns-clause-tracks : goal.returns-clause-tracks
returns-clause-tracks c d tr = record {
  services = same_rows (Unwatches
      (make_watch c.args.client c.args.name.now c.args.object)) d c.args.self.now.services.rows.items
      (λ name. refl) tr.services;
  watches = c.remove.ensures.tracks d tr.watches;
  order = c.remove_watch.ensures.tracks d tr.order;
}
