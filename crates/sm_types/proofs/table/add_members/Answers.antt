use Rattle.std.proofs.Common.{sym}
use Rattle.std.proofs.Math.Bool.{or-false}
use Rattle.sm_types.specs.Names.{at}
use Rattle.sm_types.proofs.Accepted.{unlisted}
use Rattle.sm_types.proofs.table.add_members.Goals as goal

pub returns-in-None-clause-added : goal.returns-in-None-clause-added
returns-in-None-clause-added c policy is i h =
    rw (unlisted policy c.args.table.now c.args.word.now (at c.args.table.now.symbols.types i) is
    (sym c.in-None.ensures.known)) (sym (or-false _))
