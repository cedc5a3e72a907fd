use Rattle.std.proofs.Common.{◌≡◌, ◌≤◌, ◌+◌, ◌/◌, drop, take, length}
use Rattle.sm_ruletext.specs.declared.statement.RuleKind.{RuleKind}
use Rattle.sm_rules.specs.Faults.{fault_among}
use Rattle.sm_rules.specs.Keeping.{AllStandFor, FitsRules, SaysPermissive, rules_in, list_of}
use Rattle.sm_rules.specs.Memoed.{IsRight}
use Rattle.sm_rules.specs.Pooling.{HasMembers}
use Rattle.sm_rules.proofs.draft.all_rules.Given as goal

abbrev pub invariant-loop-statement : goal.invariant-loop-statement
invariant-loop-statement l = record {
  on : fault_among l.statements (drop l.statement-index l.statements) ≡ fault_among l.statements l.statements;
  kept : (kind : RuleKind)
      → AllStandFor l.statements l.types.symbols.types (rules_in kind (take l.statement-index l.statements))
      (list_of kind l.draft.allows.items l.draft.neverallows.items l.draft.silences.items);
  permissive : SaysPermissive (take l.statement-index l.statements) l.types.symbols.types l.draft.permissive;
  pool : HasMembers l.types l.pool;
  memo : IsRight l.types l.memo;
  room : length l.draft.permissive ≡ length l.types.symbols.types / 64 + 1;
  few : length l.draft.allows.items + length l.draft.neverallows.items ≤ l.statement-index;
  fits : FitsRules (length l.types.symbols.types) l.draft.allows.items l.draft.neverallows.items l.draft.silences.items;
}
