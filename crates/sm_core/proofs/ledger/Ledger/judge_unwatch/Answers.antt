use Rattle.std.proofs.Common.{ℕ, List, ap, ◌∙◌, rules, count_by}
use Rattle.sm_history.specs.declared.outcome.Outcome.TheVariants.{Unwatched}
use Rattle.sm_history.specs.Histories.{effects_of, watch}
use Rattle.sm_history.specs.Services.{same_watch, watches_at}
use Rattle.sm_history.specs.Records.{moment_of}
use Rattle.sm_core.proofs.Drafting.{unwatch_drafted}
use Rattle.sm_core.proofs.ledger.Ledger.judge_unwatch.Goals as goal

pub returns : goal.returns
returns c =
    let d = effects_of c.args.self.now.book.history in
    let k = c.args.row.now.id in
    let name = c.args.name.now in
    let object = c.args.object in (
      search rules,
      unwatch_drafted (moment_of c.args.self.now.book.history) d k name object c.in_ok-watch.watch _ _
          c.in_ok-watch.ensures c.requires.live (search rules) (search rules)
          (ap (λ (n : ℕ). Unwatched n) (c.watching-ended.ensures
          ∙ ap (λ (v : List ℕ). count_by (same_watch (watch k v object)) (watches_at d)) c.bytes-2.ensures)),
    )
