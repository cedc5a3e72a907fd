use Rattle.std.proofs.Common.{rules, ap, sym, ◌∙◌}
use Rattle.std.specs.Prelude.{not, filter}
use Rattle.std.proofs.lemmas.Fn.{filter_same}
use Rattle.sm_history.specs.declared.effect.Watch.{Watch}
use Rattle.sm_history.specs.Services.{same_watch}
use Rattle.sm_history.specs.Histories.{watch as make_watch}
use Rattle.sm_history.proofs.AfterWatches.{watches_unwatches}
use Rattle.sm_names.proofs.watch_order.remove_watch.Goals as goal

pub returns-clause-tracks : goal.returns-clause-tracks
returns-clause-tracks c d tr =
    let v = make_watch c.args.client c.args.name.now c.args.object in
    rw (filter_same _ (λ (w : Watch). not (same_watch v w)) _ (λ x b f' k. search rules) _ _ c.retain.ensures.filtered)
    (ap (filter (λ (w : Watch). not (same_watch v w))) tr ∙ sym (watches_unwatches d v))
