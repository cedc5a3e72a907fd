use Rattle.std.proofs.Common.{◌≡◌, ◌+◌, ◌/◌, ◌||◌, ℕ, length, take}
use Rattle.std.specs.List.{list_any}
use Rattle.sm_bits.specs.Bits.{has}
use Rattle.sm_unused.specs.Rows.{is_in_row}
use Rattle.sm_unused.proofs.used_types.add_rules.Given as goal

abbrev pub invariant-loop-rule : goal.invariant-loop-rule
invariant-loop-rule l = record {
  room : length l.row ≡ l.fn.count / 64 + 1;
  added : (t : ℕ) → has l.row t ≡ (has l.initial.row t || list_any (is_in_row t) (take l.rule-index l.rules));
}
