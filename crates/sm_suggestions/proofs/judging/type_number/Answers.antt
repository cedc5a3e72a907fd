use Rattle.sm_suggestions.proofs.Forbidding.{number_named, number_within}
use Rattle.sm_suggestions.proofs.judging.type_number.Goals as goal

pub returns-clause-declared : goal.returns-clause-declared
returns-clause-declared c = c.index.ensures.declared c.args.policy.now.statements c.types.ensures

pub returns-clause-within : goal.returns-clause-within
returns-clause-within c = number_within c.args.policy.now.statements c.types.result.now c.args.name.now c.index.result
    c.types.ensures c.index.ensures.place

pub returns-clause-named : goal.returns-clause-named
returns-clause-named c = number_named c.args.policy.now.statements c.types.result.now c.args.name.now c.index.result
    c.types.ensures c.index.ensures.place
