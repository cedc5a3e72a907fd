use Rattle.std.proofs.Common.{◌≡◌, ◌≤◌, drop}
use Rattle.sm_wire.specs.Number.{digits_after}
use Rattle.sm_wire.proofs.numbers.digits.Given as goal

abbrev pub invariant-loop-b : goal.invariant-loop-b
invariant-loop-b l = (digits_after l.max l.n (drop l.b-index l.bytes) ≡ digits_after l.max 0 l.bytes) × (l.n ≤ l.max)
