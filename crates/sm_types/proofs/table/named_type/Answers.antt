use Rattle.std.proofs.Common.{sym}
use Rattle.sm_types.specs.Names.{at}
use Rattle.sm_types.proofs.Accepted.{named_type}
use Rattle.sm_types.proofs.table.named_type.Goals as goal

pub returns-clause-named : goal.returns-clause-named
returns-clause-named c policy is i h =
    rw (named_type policy c.args.table.now c.args.word.now (at c.args.table.now.symbols.types i) is
    (sym c.in_ok-t.ensures.known)) (c.in_ok-t.ensures.only i h)
