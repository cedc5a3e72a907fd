use Rattle.std.proofs.Common.{◌∙◌, ap}
use Rattle.std.proofs.lemmas.Result.{on_ok_weaker}
use Rattle.sm_wire.specs.declared.item.Item.TheVariants.{Asked}
use Rattle.sm_wire.proofs.GivingLemmas.{line_reload}
use Rattle.sm_wire.proofs.framing.files_begin.Goals as goal

pub returns-clause-item : goal.returns-clause-item
returns-clause-item c =
    let found = c.in-Some-Asked-Reload in
    on_ok_weaker c.texts_begin.result (λ begins. line_reload c.args.kind c.args.line.now c.args.count _ _ _
    (record { expected = found.expected; rules = found.rules; contexts = found.contexts }) _ c.requires.count
    c.requires.last (rw c.deref.ensures.value at found.ensures.lookup.1)
    (found.field-0-is ∙ ap Asked found.field-0-0-is) begins)
    (rw (← c.truncate.ensures.items) c.texts_begin.ensures.item)
