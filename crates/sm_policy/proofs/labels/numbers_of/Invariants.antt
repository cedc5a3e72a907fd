use Rattle.std.proofs.Common.{◌≡◌, ◌≤◌, List, Some, drop, length, map, take, vec_len}
use Rattle.std.specs.Vec.{vec_capacity}
use Rattle.sm_ruletext.specs.declared.statement.Statement.{Statement}
use Rattle.sm_types.specs.Members.{IsOf}
use Rattle.sm_policy.specs.Labelling.{number_of}
use Rattle.sm_policy.specs.Undeclared.{first_undeclared}
use Rattle.sm_policy.proofs.labels.numbers_of.Given as goal

abbrev pub invariant-loop-i : goal.invariant-loop-i
invariant-loop-i l = record {
  declared : (policy : List Statement) → IsOf policy l.types
      → first_undeclared policy (drop l.i l.contexts) ≡ first_undeclared policy l.contexts;
  numbered : map (number_of l.types.symbols.types) (take l.i l.contexts) ≡ map Some l.numbers.items;
  many : vec_len l.numbers ≡ l.i;
  room : length l.contexts ≤ vec_capacity l.numbers;
}
