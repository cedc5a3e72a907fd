use Rattle.std.proofs.Common.{rules}
use Rattle.std.specs.Prelude.{not}
use Rattle.std.proofs.lemmas.Fn.{filter_same}
use Rattle.sm_history.specs.declared.effect.Watch.{Watch}
use Rattle.sm_history.specs.Services.{same_watch}
use Rattle.sm_history.specs.Histories.{watch as make_watch}
use Rattle.sm_replay.proofs.tables.end_watches.Goals as goal

pub returns : goal.returns
returns c =
    filter_same _ (λ (w : Watch). not (same_watch (make_watch c.args.client c.args.name.now c.args.object) w)) _
    (λ x b f' k. search rules) _ _ c.retain.ensures.filtered
