-- What the rules of a policy source allow, forbid and silence, by names.
use Rattle.std.specs.Prelude.{◌≡◌, ℕ, Bool, false, not, ◌&&◌, ◌||◌, find, Option, Some, None, is_some, option_map}
use Rattle.std.specs.List.{list_any}
use Rattle.std.specs.Str.{bytes_eq}
use Rattle.sm_values.specs.Permissions.{class_word, perm_of}
use Rattle.sm_values.specs.declared.class.Class.{Class}
use Rattle.sm_values.specs.declared.perms.Perms.{Perms}
use Rattle.sm_ruletext.specs.Sets.{selects}
use Rattle.sm_ruletext.specs.Items.{Set}
use Rattle.sm_ruletext.specs.declared.rule.Rule.{Rule}
use Rattle.sm_ruletext.specs.declared.statement.RuleKind.{RuleKind}
use Rattle.sm_ruletext.specs.declared.statement.RuleKind.TheVariants.{Allow, Neverallow, Dontaudit}
use Rattle.sm_ruletext.specs.declared.statement.What.{What}
use Rattle.sm_ruletext.specs.declared.statement.What.TheVariants as what
use Rattle.sm_ruletext.specs.declared.statement.Statement.{Statement}
use Rattle.sm_types.specs.Names.{Name}
use Rattle.sm_types.specs.Denoting.{Policy, declares, in_set}

-- ---- what a rule covers

-- A rule joins two types: s is in its source, and t is in its target, or is s where the target has `self`.
unfoldable pub joins : Policy → Name → Name → Rule → Bool
joins policy s t rule = in_set policy rule.source s && (in_set policy rule.target t || (rule.to_self && bytes_eq s t))

-- A set has the word, if there is one.
abbrev pub picks : Set → Option Name → Bool
picks set None = false
picks set (Some word) = selects set word

-- A rule grants a permission: it selects the class, and has the permission, which is a single one of that class.
unfoldable pub gives : Class → Perms → Rule → Bool
gives class perm rule = selects rule.class (class_word class) && picks rule.perm (perm_of class perm)

-- A rule covers an access.
abbrev pub covers : Policy → Name → Name → Class → Perms → Rule → Bool
covers policy s t class perm rule = joins policy s t rule && gives class perm rule

-- ---- what a policy source allows, forbids and silences

-- This is the rule of a statement's content, if it is one of the kind.
abbrev pub rule_of : What → RuleKind → Option Rule
rule_of (what.Rule Allow r) Allow = Some r
rule_of (what.Rule Neverallow r) Neverallow = Some r
rule_of (what.Rule Dontaudit r) Dontaudit = Some r
rule_of content kind = None

-- There is a rule, and it covers an access.
abbrev pub covered_by : Policy → Name → Name → Class → Perms → Option Rule → Bool
covered_by policy s t class perm None = false
covered_by policy s t class perm (Some r) = covers policy s t class perm r

-- A statement is a rule of the kind that covers an access.
abbrev pub covers_as : RuleKind → Policy → Name → Name → Class → Perms → Statement → Bool
covers_as kind policy s t class perm statement = covered_by policy s t class perm (rule_of statement.what kind)

-- Some rule of the kind covers the access.
abbrev pub some_covers : RuleKind → Policy → Name → Name → Class → Perms → Bool
some_covers kind policy s t class perm = list_any (covers_as kind policy s t class perm) policy

-- Some allow rule grants the access.
abbrev pub written : Policy → Name → Name → Class → Perms → Bool
written policy s t class perm = some_covers Allow policy s t class perm

-- This is the line of the first allow rule that grants the access.
abbrev pub written_line : Policy → Name → Name → Class → Perms → Option ℕ
written_line policy s t class perm = option_map (λ st. st.line) (find (covers_as Allow policy s t class perm) policy)

-- Some neverallow rule covers the access.
abbrev pub forbidden : Policy → Name → Name → Class → Perms → Bool
forbidden policy s t class perm = some_covers Neverallow policy s t class perm

-- Some dontaudit rule covers the access.
abbrev pub silenced : Policy → Name → Name → Class → Perms → Bool
silenced policy s t class perm = some_covers Dontaudit policy s t class perm

-- A statement's content makes type s permissive.
abbrev pub names_permissive : Name → What → Bool
names_permissive s (what.Permissive n) = bytes_eq s n
names_permissive s (what.Rule kind r) = false
names_permissive s (what.Attribute n) = false
names_permissive s (what.Declared n names) = false
names_permissive s (what.Member n names) = false

-- Some statement makes the type permissive.
abbrev pub is_permissive : Policy → Name → Bool
is_permissive policy s = list_any (λ st. names_permissive s st.what) policy

-- ---- decisions

-- An access is allowed: a rule grants it; or the source is permissive, the target is declared, and the permission is
-- one of the class.
abbrev pub allowed : Policy → Name → Name → Class → Perms → Bool
allowed policy s t class perm =
    written policy s t class perm || (is_permissive policy s && (declares policy t && is_some (perm_of class perm)))

-- An access is audited: no allow rule grants it, and no dontaudit rule covers it. Then a check of it is recorded,
-- passed or not.
abbrev pub audits : Policy → Name → Name → Class → Perms → Bool
audits policy s t class perm = not (written policy s t class perm) && not (silenced policy s t class perm)

-- Nothing is both allowed by a rule and forbidden. What only a permissive source may do doesn't count.
abbrev pub IsConsistent : Policy → Type 0
IsConsistent policy = (s t : Name) (class : Class) (perm : Perms)
    → (written policy s t class perm && forbidden policy s t class perm) ≡ false
