use Rattle.sm_unused.proofs.pairs.remove_from_row.Goals as goal

pub returns-clause-removed : goal.returns-clause-removed
returns-clause-removed c t = rw (c.requires.has, ← c.requires.targets t) (c.remove_targets.ensures.removed t)
