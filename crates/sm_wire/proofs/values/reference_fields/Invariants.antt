use Rattle.std.proofs.Common.{◌≡◌, ◌++◌, length, option_map}
use Rattle.sm_wire.specs.Values.{references_of}
use Rattle.sm_wire.proofs.values.reference_fields.Given as goal

abbrev pub invariant-loop-field : goal.invariant-loop-field
invariant-loop-field l =
    references_of l.initial.fields ≡ option_map (λ others. l.list.items ++ others) (references_of l.fields)

abbrev pub decreases-loop-field : goal.decreases-loop-field
decreases-loop-field l = length l.fields
