use Rattle.std.proofs.Common.{◌≡◌, ◌++◌, drop}
use Rattle.std.specs.List.{flat_map}
use Rattle.sm_audit.specs.AuditLines.{audit_line}
use Rattle.sm_audit.proofs.lines.push_lines.Given as goal

abbrev pub invariant-loop-denied : goal.invariant-loop-denied
invariant-loop-denied l = l.lines.items
    ++ flat_map audit_line (drop l.denied-index l.records) ≡ flat_map audit_line l.records
