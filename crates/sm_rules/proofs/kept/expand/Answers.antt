use Rattle.sm_rules.proofs.kept.expand.Goals as goal

pub returns-in-Some-clause-denoted : goal.returns-in-Some-clause-denoted
returns-in-Some-clause-denoted c = rw c.in-Some.is at (c.in_ok-known.ensures c.args.types.now c.requires.memo)
