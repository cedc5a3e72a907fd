use Rattle.sm_policy.proofs.Labelling.{label_number}
use Rattle.sm_policy.proofs.prepared.Prepared.labelled.Goals as goal

pub returns-clause-index : goal.returns-clause-index
returns-clause-index c =
    let parts = c.parts.result.now in
    label_number c.args.self.now parts.types.symbols.types parts.labels.indexes.items c.args.name.now
    c.place-place.result c.index.result.now c.parts.ensures.typed.types c.parts.ensures.numbered
    (rw c.parts.ensures.labels at c.place-place.ensures.within)
    (rw c.parts.ensures.labels at c.place-place.ensures.labelled) c.index.ensures
