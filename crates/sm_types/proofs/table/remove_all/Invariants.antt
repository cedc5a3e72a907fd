use Rattle.std.proofs.Common.{◌≡◌, ◌<◌, ◌≤◌, ◌&&◌, ℕ, length, not, take, List, true, false}
use Rattle.std.specs.List.{list_any}
use Rattle.sm_bits.specs.Bits.{has}
use Rattle.sm_ruletext.specs.declared.statement.Statement.{Statement}
use Rattle.sm_types.specs.Names.{at}
use Rattle.sm_types.specs.Denoting.{is_named}
use Rattle.sm_types.specs.Members.{IsOf}
use Rattle.sm_types.specs.Declaring.{all_declared}
use Rattle.sm_types.proofs.table.remove_all.Given as goal

abbrev pub invariant-loop-word : goal.invariant-loop-word
invariant-loop-word l = record {
  room : length l.set ≡ length l.initial.set;
  known : all_declared l.table.symbols (take l.word-index l.word-items) ≡ true;
  left : (policy : List Statement) → IsOf policy l.table → (i : ℕ) → i < length l.table.symbols.types
      → has l.set i ≡ (has l.initial.set i && not (list_any (is_named policy (at l.table.symbols.types i))
      (take l.word-index l.word-items)));
  past : (i : ℕ) → length l.table.symbols.types ≤ i → has l.initial.set i ≡ false → has l.set i ≡ false;
}
