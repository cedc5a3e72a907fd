-- What is kept of sets and rules that were looked at before.
use Rattle.std.specs.Prelude.{◌≡◌, ℕ, Bool, ◌<◌, ◌≤◌, ◌+◌, ◌/◌, true, false, All, List, length}
use Rattle.sm_bits.specs.Bits.{has, has_bit}
use Rattle.sm_values.specs.declared.perms.Perms.{Perms}
use Rattle.sm_ruletext.specs.Items.{Set, SameItems}
use Rattle.sm_ruletext.specs.declared.rule.Rule.{Rule}
use Rattle.sm_types.specs.Names.{at}
use Rattle.sm_types.specs.Denoting.{Policy, in_set, all_known}
use Rattle.sm_types.specs.Members.{IsOf}
use Rattle.sm_types.specs.declared.table.Table.{Table}
use Rattle.sm_rules.specs.Access.{gives}
use Rattle.sm_rules.specs.Faults.{perms_known}
use Rattle.sm_rules.specs.Keeping.{class_at, perm_at}
use Rattle.sm_rules.specs.declared.memo.Expanded.{Expanded}
use Rattle.sm_rules.specs.declared.memo.Granted.{Granted}

-- All names of the set are declared, and the row has the types that it denotes.
pub record Denotes (table : Table) (set : Set) (row : List ℕ) : Type 0 where
  pub room : length row ≡ length table.symbols.types / 64 + 1
  pub denoted : (policy : Policy) → IsOf policy table → (i : ℕ) → i < length table.symbols.types
      → has row i ≡ in_set policy set (at table.symbols.types i)
  pub past : (i : ℕ) → length table.symbols.types ≤ i → has row i ≡ false
  pub known : (policy : Policy) → IsOf policy table → all_known policy set ≡ true

-- This says whether the permissions of the rule are known, and these are those that it grants.
pub record Grants (rule : Rule) (known : Bool) (perms : Perms) : Type 0 where
  pub is : known ≡ perms_known rule
  pub given : (b : ℕ) → b < 7 → has_bit perms.0 b ≡ gives (class_at b) (perm_at b) rule
  pub other : (b : ℕ) → 7 ≤ b → has_bit perms.0 b ≡ false

-- The row is that of every set with these items.
pub record IsExpanded (table : Table) (kept : Expanded) : Type 0 where
  pub says : (set : Set) → SameItems kept.set set → Denotes table set kept.row

-- The permissions are those of every rule with these classes and permissions.
pub record IsGranted (kept : Granted) : Type 0 where
  pub says : (rule : Rule) → SameItems kept.class rule.class → SameItems kept.perm rule.perm
      → Grants rule kept.known kept.perms

-- Contracts see these of what is kept.
pub record Memoed : Type 0 where
  pub sets : List Expanded
  pub grants : List Granted

-- What is kept is right under the table.
pub record IsRight (table : Table) (memoed : Memoed) : Type 0 where
  pub sets : All (IsExpanded table) memoed.sets
  pub grants : All IsGranted memoed.grants
