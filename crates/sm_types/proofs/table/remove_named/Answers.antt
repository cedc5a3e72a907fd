use Rattle.std.proofs.Common.{sym, ◌∙◌, not, eqb}
use Rattle.std.proofs.Math.Bool.{and_comm, and-true}
use Rattle.sm_bits.specs.Bits.{has}
use Rattle.sm_types.specs.Names.{at}
use Rattle.sm_types.proofs.Accepted.{named_type, unlisted}
use Rattle.sm_types.proofs.table.remove_named.Goals as goal

pub returns-in-Some-clause-left : goal.returns-in-Some-clause-left
returns-in-Some-clause-left c policy is i h =
    rw (
      named_type policy c.args.table.now c.args.word.now (at c.args.table.now.symbols.types i) is
          (sym c.in-Some.ensures.known),
      c.in-Some.ensures.only i h,
    ) (c.remove.ensures.removed i ∙ and_comm (not (eqb i c.in-Some.t)) (has c.args.set.now i))

pub returns-in-None-clause-left : goal.returns-in-None-clause-left
returns-in-None-clause-left c policy is i h =
    rw (
      unlisted policy c.args.table.now c.args.word.now (at c.args.table.now.symbols.types i) is
          (sym c.in-None.ensures.known),
      c.in_default.ensures.only i h,
    ) (sym (and-true (has c.args.set.now i)))
