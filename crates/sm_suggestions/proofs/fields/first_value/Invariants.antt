use Rattle.std.proofs.Common.{◌≡◌, drop}
use Rattle.sm_suggestions.specs.Records.{values}
use Rattle.sm_suggestions.proofs.fields.first_value.Given as goal

abbrev pub invariant-loop-i : goal.invariant-loop-i
invariant-loop-i l = values l.key l.words ≡ values l.key (drop l.i l.words)
