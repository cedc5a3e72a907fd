use Rattle.std.proofs.Common.{rules}
use Rattle.sm_wire.proofs.FieldLemmas.{next_field, last_field}
use Rattle.sm_wire.proofs.fields.Fields.field.Goals as goal

pub returns-in-Some-space_in : goal.returns-in-Some-space_in
returns-in-Some-space_in c = rw (← c.self.view_is, c.in-Some.is)
    (next_field c.in-Some.rest.now c.in-Some-space_in.i (search rules))

pub returns-in-None : goal.returns-in-None
returns-in-None c = rw (← c.self.view_is, c.in-Some.is) (last_field c.in-Some.rest.now (search rules))
