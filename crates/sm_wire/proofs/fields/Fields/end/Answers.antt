use Rattle.std.proofs.Common.{refl}
use Rattle.sm_wire.proofs.FieldLemmas.{some_field}
use Rattle.sm_wire.proofs.fields.Fields.end.Goals as goal

pub returns-in-Some : goal.returns-in-Some
returns-in-Some c = (refl, rw (← c.self.view_is, c.in-Some.is) (some_field c.in-Some.field-0.now))
