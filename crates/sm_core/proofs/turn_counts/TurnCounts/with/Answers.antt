use Rattle.std.proofs.Common.{ap, ◌∙◌}
use Rattle.std.specs.Arc.{arc_value}
use Rattle.sm_core.specs.declared.turns.Turns.{Turns}
use Rattle.sm_history.specs.declared.turn.TurnRow.{TurnRow}
use Rattle.std.proofs.Common.{List}
use Rattle.sm_core.specs.Viewing.{counted_in}
use Rattle.sm_core.proofs.TurnCountRows.{counted_once}
use Rattle.sm_core.proofs.turn_counts.TurnCounts.with.Goals as goal

pub returns : goal.returns
returns c b =
    let since = c.args.self.now.since.items in
    let base = arc_value c.args.self.now.base in
    ap (λ (t : Turns). counted_in t c.in_ok-since.since.items b) c.in_ok-base.ensures
    ∙ ap (λ (rows : List TurnRow). counted_in base rows b) (rw c.deref.ensures.value at c.in_ok-since.ensures)
    ∙ counted_once base c.args.row since b ∙ c.requires b
