use Rattle.std.proofs.Common.{◌∙◌}
use Rattle.sm_types.proofs.Accepted.{declares_type}
use Rattle.sm_types.proofs.NameLemmas.{named_at}
use Rattle.sm_types.proofs.types.Types.index.Goals as goal

pub returns-in-Some-clause-named : goal.returns-in-Some-clause-named
returns-in-Some-clause-named c = rw (← c.self.view_is)
    (named_at c.self.inside.table.symbols.types c.args.name.now c.in-Some.i (cc))

pub returns-in-Some-clause-declared : goal.returns-in-Some-clause-declared
returns-in-Some-clause-declared c policy is =
    (rw (c.self.view_is, is.types) at c.in-Some.ensures.known) ∙ declares_type c.args.name.now policy

pub returns-in-None-clause-declared : goal.returns-in-None-clause-declared
returns-in-None-clause-declared c policy is =
    (rw (c.self.view_is, is.types) at c.in-None.ensures.known) ∙ declares_type c.args.name.now policy
