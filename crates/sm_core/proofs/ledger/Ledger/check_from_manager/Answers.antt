use Rattle.std.proofs.Common.{sym, ◌∙◌}
use Rattle.sm_core.proofs.Ways.{passes_from_manager}
use Rattle.sm_core.proofs.ledger.Ledger.check_from_manager.Goals as goal

pub returns-then-grants : goal.returns-then-grants
returns-then-grants c =
    passes_from_manager c.args.self.now.book.history c.args.row.now c.args.perm c.args.notes.now.items c.requires
    (sym c.grants.ensures ∙ c.if-grants.true)
