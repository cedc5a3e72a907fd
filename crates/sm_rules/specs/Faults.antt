-- Faults of rules and of permissive statements.
use Rattle.std.specs.Prelude.{ℕ, Bool, not, ◌&&◌, ◌||◌, if◌then◌else◌, List, [], ◌∷◌, Option, Some, None, is_some}
use Rattle.std.specs.List.{list_all}
use Rattle.std.specs.Option.{option_or}
use Rattle.sm_values.specs.Permissions.{class_word, class_read, is_permission}
use Rattle.sm_values.specs.declared.class.Class.TheVariants.{ServiceManager, Binder}
use Rattle.sm_ruletext.specs.Sets.{selects}
use Rattle.sm_ruletext.specs.Kept.{is_kept}
use Rattle.sm_ruletext.specs.Items.{Set}
use Rattle.sm_ruletext.specs.declared.rule.Rule.{Rule}
use Rattle.sm_ruletext.specs.declared.statement.What.{What}
use Rattle.sm_ruletext.specs.declared.statement.What.TheVariants as what
use Rattle.sm_ruletext.specs.declared.statement.Statement.{Statement}
use Rattle.sm_types.specs.Names.{Name}
use Rattle.sm_types.specs.Denoting.{Policy, declares, all_known}
use Rattle.sm_rules.specs.declared.fault.RulesFault.{RulesFault}
use Rattle.sm_rules.specs.declared.fault.RulesFault.TheVariants.{Unknown, UnknownPermission, Memory}

-- A word is one of the two classes.
abbrev pub is_class : Name → Bool
is_class word = is_some (class_read word)

-- A class set has `*`, `~` or the name of another class.
unfoldable pub is_open : Set → Bool
is_open set = (set.all || set.complement) || not (list_all is_class set.plus && list_all is_class set.minus)

-- Some selected class has the permission.
unfoldable pub applies : Rule → Name → Bool
applies rule word =
    (selects rule.class (class_word ServiceManager) && is_permission ServiceManager word)
    || (selects rule.class (class_word Binder) && is_permission Binder word)

-- Unless the class set is open, each permission is one of a selected class.
unfoldable pub perms_known : Rule → Bool
perms_known rule =
    is_open rule.class || (list_all (applies rule) rule.perm.plus && list_all (applies rule) rule.perm.minus)

-- This is the fault of a rule: first of the names of types and attributes, then of those of permissions.
unfoldable pub rule_fault : Policy → ℕ → Rule → Option RulesFault
rule_fault policy line rule =
    if not (all_known policy rule.source && all_known policy rule.target) then Some (Unknown line)
    else if not (perms_known rule) then Some (UnknownPermission line)
    else None

-- Rules that aren't kept have no faults.
abbrev pub fault_if_kept : Policy → ℕ → Rule → Option RulesFault
fault_if_kept policy line rule = if is_kept rule then rule_fault policy line rule else None

-- A permissive statement must name a declared type.
abbrev pub permissive_fault : Policy → ℕ → Name → Option RulesFault
permissive_fault policy line name = if declares policy name then None else Some (Unknown line)

-- This is the fault of a statement's content.
abbrev pub fault_of : Policy → ℕ → What → Option RulesFault
fault_of policy line (what.Rule kind r) = fault_if_kept policy line r
fault_of policy line (what.Permissive n) = permissive_fault policy line n
fault_of policy line (what.Attribute n) = None
fault_of policy line (what.Declared n names) = None
fault_of policy line (what.Member n names) = None

-- This is the first fault of these statements of the policy, in their order.
unfoldable pub fault_among : Policy → List Statement → Option RulesFault
fault_among policy [] = None
fault_among policy (st ∷ sts) = option_or (fault_of policy st.line st.what) (fault_among policy sts)

-- This is the first fault of the policy's rules, in the order of the source.
abbrev pub first_fault : Policy → Option RulesFault
first_fault policy = fault_among policy policy

-- A claim on a refusal, unless an allocation failed.
abbrev pub UnlessMemory : RulesFault → Type 0 → Type 0
UnlessMemory Memory P = Unit {0}
UnlessMemory (Unknown line) P = P
UnlessMemory (UnknownPermission line) P = P
