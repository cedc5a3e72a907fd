use Rattle.std.proofs.Common.{◌≡◌, sym, ◌∙◌}
use Rattle.sm_history.proofs.TableRows.{tables_are}
use Rattle.sm_replay.proofs.SameTables.{same_tables}
use Rattle.sm_replay.proofs.segments.started.Goals as goal

pub returns : goal.returns
returns c =
    let s = c.tables.result.now in
    let left = c.tables.ensures.left in
    record {
      turning = rw c.turns.ensures at c.in_ok-turning.ensures;
      length = c.history_length-length.ensures;
      tables = λ d sound rows. c.in_ok-tables.ensures d
          (same_tables left.0 d s left.1 sound (sym (tables_are left.0 s left.1 left.2)
          ∙ c.tables.ensures.same ∙ rows) left.2);
    }
