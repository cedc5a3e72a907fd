use Rattle.std.proofs.Common.{sym, ◌∙◌}
use Rattle.sm_matrices.proofs.Groups.{none_of_set}
use Rattle.sm_matrices.proofs.matrix.add_set.Goals as goal

pub returns-then-not-has : goal.returns-then-not-has
returns-then-not-has c =
    none_of_set c.args.rules.now c.args.count c.args.set.0 c.args.matrices.now.items
    (sym (c.requires.sets.says c.args.set.0) ∙ (rw c.from.ensures at (sym c.has.ensures)) ∙ c.if-not-has.true)
    c.requires.number c.requires.square
