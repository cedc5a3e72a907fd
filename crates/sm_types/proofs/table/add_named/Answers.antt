use Rattle.std.proofs.Common.{sym, ◌∙◌}
use Rattle.sm_types.specs.Names.{at}
use Rattle.sm_types.proofs.Accepted.{named_type}
use Rattle.sm_types.proofs.table.add_named.Goals as goal

pub returns-then-add_type-clause-added : goal.returns-then-add_type-clause-added
returns-then-add_type-clause-added c policy is i h =
    rw (named_type policy c.args.table.now c.args.word.now (at c.args.table.now.symbols.types i) is
    (sym c.add_type.ensures.known ∙ c.if-add_type.true))
    (c.add_type.ensures.added i h)
