use Rattle.std.proofs.Common.{drop}
use Rattle.std.specs.List.{AllByRecursion}
use Rattle.sm_wire.specs.ScriptLines.{FitsReference}
use Rattle.sm_wire.proofs.script_lines.fit_references.Given as goal

-- All fit if those that are left do.
abbrev pub invariant-loop-reference : goal.invariant-loop-reference
invariant-loop-reference l = AllByRecursion FitsReference (drop l.reference-index l.refs)
    → AllByRecursion FitsReference l.refs
