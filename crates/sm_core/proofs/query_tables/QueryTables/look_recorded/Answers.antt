use Rattle.std.proofs.Common.{sym, ◌∙◌}
use Rattle.sm_core.proofs.Looking.{found_leaves, query_passed, stop_leaves}
use Rattle.sm_core.proofs.query_tables.QueryTables.look_recorded.Goals as goal

pub returns-in-Ok-clause-records : goal.returns-in-Ok-clause-records
returns-in-Ok-clause-records c =
    let b = c.args.self.now in
    found_leaves b c.args.by c.args.query.now _ _ _ _ _
    (query_passed b.history c.args.by c.args.query.now c.judge_query.new.notes.items
    (rw c.new-notes.ensures.items at c.in-Ok.ensures.judged.0)) c.looked.ensures

pub returns-else-is_memory-clause-records : goal.returns-else-is_memory-clause-records
returns-else-is_memory-clause-records c =
    stop_leaves c.args.self.now c.args.by c.args.query.now c.judge_query.new.notes.items c.in-Err.reply
    (rw c.new-notes.ensures.items at c.in-Err.ensures.judged) (sym c.is_memory.ensures ∙ c.if-is_memory.false)
