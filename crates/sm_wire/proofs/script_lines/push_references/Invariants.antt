use Rattle.std.proofs.Common.{◌≡◌, ◌++◌, drop, map}
use Rattle.std.specs.List.{flat_map}
use Rattle.sm_wire.specs.ScriptLines.{reference_text, spaced}
use Rattle.sm_wire.proofs.script_lines.push_references.Given as goal

abbrev pub invariant-loop-reference : goal.invariant-loop-reference
invariant-loop-reference l = l.out.items ++ flat_map spaced (map reference_text (drop l.reference-index l.refs))
    ≡ l.initial.out.items ++ flat_map spaced (map reference_text l.refs)
