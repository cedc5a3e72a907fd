use Rattle.std.proofs.Common.{Some, ap, refl, sym, ◌∙◌}
use Rattle.std.proofs.lemmas.Option.{slice_get_read}
use Rattle.std.proofs.lemmas.Slice.Eq.{bytes_eq-Decides}
use Rattle.sm_core.proofs.KnownLabels.{known_of}
use Rattle.sm_core.proofs.known_labels.found.Goals as goal

pub returns-in-Some-Some : goal.returns-in-Some-Some
returns-in-Some-Some c = λ p known.
    let there = c.in-Some-Some.ensures.lookup in
    known_of p c.args.slots.now c.slot_by.result c.in-Some-Some.known c.args.name.now known
    (slice_get_read c.args.slots.now _ _ c.in-Some-Some.field-0.now refl there.3.0 there.1
    ∙ ap Some c.in-Some-Some.field-0-is)
    (sym c.bytes.ensures ∙ (bytes_eq-Decides c.bytes.result.now c.args.name.now).0 (sym c.if-spells.ensures))
