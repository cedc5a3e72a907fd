use Rattle.std.proofs.Common.{◌≡◌, ◌≤◌, drop, length}
use Rattle.sm_types.specs.Declaring.{declared, nothing}
use Rattle.sm_types.specs.declared.TheConstants.{MOST_TYPES}
use Rattle.sm_types.proofs.symbols.declared.Given as goal

abbrev pub invariant-loop-statement : goal.invariant-loop-statement
invariant-loop-statement l = record {
  few : length l.symbols.types ≤ MOST_TYPES;
  on : declared l.symbols (drop l.statement-index l.statements) ≡ declared nothing l.statements;
}
