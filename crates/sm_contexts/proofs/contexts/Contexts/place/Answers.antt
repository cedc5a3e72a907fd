use Rattle.std.proofs.Common.{◌≡◌, Some, rules}
use Rattle.sm_contexts.specs.Reading.{label_place}
use Rattle.sm_contexts.proofs.Places.{labelled}
use Rattle.sm_contexts.proofs.contexts.Contexts.place.Goals as goal

pub returns-in-Some-clause-labelled : goal.returns-in-Some-clause-labelled
returns-in-Some-clause-labelled c =
    let placed : label_place c.args.self.now c.args.name.now ≡ Some c.in-Some.place = search rules in
    labelled c.args.self.now c.args.name.now c.in-Some.place placed

pub returns-in-None-clause-labelled : goal.returns-in-None-clause-labelled
returns-in-None-clause-labelled c =
    let placed : label_place c.args.self.now c.args.name.now ≡ Some c.self.inside.default = search rules in
    labelled c.args.self.now c.args.name.now c.self.inside.default placed
