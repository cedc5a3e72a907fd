use Rattle.std.proofs.Common.{sym}
use Rattle.sm_types.proofs.Accepted.{named_attribute}
use Rattle.sm_types.proofs.table.named_attribute.Goals as goal

pub returns-clause-named : goal.returns-clause-named
returns-clause-named c policy is i h =
    named_attribute policy c.args.table.now c.args.word.now c.in_ok-a.a i is (sym c.in_ok-a.ensures.place) h
