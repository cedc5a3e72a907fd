use Rattle.sm_contexts.proofs.Keys.{placed_last}
use Rattle.sm_contexts.proofs.entries.Entries.add.Goals as goal

pub returns-clause-placed : goal.returns-clause-placed
returns-clause-placed c =
    placed_last c.args.line c.args.key.now c.args.context c.in_ok-key.key c.args.self.now c.self.inside.by_key.entries
    c.insert.new.self.entries
    c.in_default.ensures c.in_ok-key.ensures.items c.self.view_is c.in_ok-insert.ensures.entries
