use Rattle.std.proofs.Common.{◌≡◌, ◌∙◌, arith, sym}
use Rattle.sm_unused.specs.Declarations.{some_adds}
use Rattle.sm_unused.proofs.Declared.{has_named, no_adds}
use Rattle.sm_unused.proofs.uses.Uses.is_added.Goals as goal

pub returns-in-Some : goal.returns-in-Some
returns-in-Some c =
    let policy = c.args.policy.now in
    let place = sym c.type_index.ensures ∙ c.in-Some.is in
    let named = has_named policy c.args.self.now.added (some_adds policy) c.args.name.now c.in-Some.index
    c.requires.added place in
    grind (arith, c.has.ensures, c.from.ensures, named)

pub returns-in-None : goal.returns-in-None
returns-in-None c = sym (no_adds c.args.policy.now c.args.name.now (sym c.type_index.ensures ∙ c.in-None.is))
