use Rattle.std.proofs.Common.{rules, ap, sym, ◌∙◌}
use Rattle.std.specs.Prelude.{not, ◌==◌, filter}
use Rattle.std.proofs.lemmas.Fn.{filter_same}
use Rattle.sm_history.specs.declared.effect.Watch.{Watch}
use Rattle.sm_history.proofs.AfterWatches.{watches_dies}
use Rattle.sm_names.proofs.watch_order.remove_watches.Goals as goal

pub returns-clause-tracks : goal.returns-clause-tracks
returns-clause-tracks c d tr =
    rw (filter_same _ (λ (w : Watch). not (c.args.client == w.client)) _
    (λ x b f' k. search rules) _ _ c.retain.ensures.filtered)
    (ap (filter (λ (w : Watch). not (c.args.client == w.client))) tr ∙ sym (watches_dies d c.args.client))
