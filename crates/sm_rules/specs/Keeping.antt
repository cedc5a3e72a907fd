-- Kept rules: types as numbers, permissions as bits.
use Rattle.std.specs.Prelude.{◌≡◌, ℕ, Bool, true, ◌&&◌, ◌||◌, ◌==◌, ◌<◌, ◌≤◌, ◌+◌, ◌/◌, ◌^◌, nat_eq, nat_lt, false}
use Rattle.std.specs.Prelude.{if◌then◌else◌, List, [], ◌∷◌, ◌++◌, length, find, option_map, slice_get, Option, Some}
use Rattle.std.specs.Prelude.{None, All, option_and_then}
use Rattle.std.specs.List.{list_any, filter_map}
use Rattle.sm_bits.specs.Bits.{has, has_bit}
use Rattle.sm_values.specs.Permissions.{bit}
use Rattle.sm_values.specs.declared.class.Class.{Class, TheVariants.ServiceManager, TheVariants.Binder}
use Rattle.sm_values.specs.declared.perms.Perms.{Perms}
use Rattle.sm_ruletext.specs.Kept.{is_kept}
use Rattle.sm_ruletext.specs.declared.rule.Rule.{Rule}
use Rattle.sm_ruletext.specs.declared.statement.RuleKind.{RuleKind}
use Rattle.sm_ruletext.specs.declared.statement.RuleKind.TheVariants.{Allow, Neverallow, Dontaudit}
use Rattle.sm_ruletext.specs.declared.statement.What.{What}
use Rattle.sm_ruletext.specs.declared.statement.Statement.{Statement}
use Rattle.sm_types.specs.Names.{Name, at, Distinct}
use Rattle.sm_types.specs.Denoting.{Policy, in_set, declares, types}
use Rattle.sm_rules.specs.Access as access
use Rattle.sm_rules.specs.Access.{rule_of, gives, is_permissive, names_permissive}
use Rattle.sm_rules.specs.declared.kept.Kept.{Kept}

-- ---- permissions by number, from 0 to 6, in the order of their bits

-- This is the class of a permission.
abbrev pub class_at : ℕ → Class
class_at b = if nat_lt b 3 then ServiceManager else Binder

-- This is the permission of a number.
abbrev pub perm_at : ℕ → Perms
perm_at b =
    if b == 0 then bit 1
    else if b == 1 then bit 2
    else if b == 2 then bit 4
    else if b == 3 then bit 8
    else if b == 4 then bit 16
    else if b == 5 then bit 32
    else bit 64

-- ---- what kept rules cover, for permission b, source s and target t

-- A kept rule joins the types s and t.
abbrev pub joins : ℕ → ℕ → Kept → Bool
joins s t rule = has rule.sources s && (has rule.targets t || (rule.to_self && nat_eq s t))

-- A kept rule covers permission b on the types s and t.
abbrev pub covers : ℕ → ℕ → ℕ → Kept → Bool
covers b s t rule = joins s t rule && has_bit rule.perms.0 b

-- This is the line of the first kept rule that covers the access.
abbrev pub covered_line : List Kept → ℕ → ℕ → ℕ → Option ℕ
covered_line rules b s t = option_map (λ r. r.line) (find (covers b s t) rules)

-- Some kept rule covers the access.
abbrev pub covered : List Kept → ℕ → ℕ → ℕ → Bool
covered rules b s t = list_any (covers b s t) rules

-- The rows of a kept rule have room for each type, and no number past the types.
pub record FitsRule (count : ℕ) (rule : Kept) : Type 0 where
  pub sources : length rule.sources ≡ count / 64 + 1
  pub targets : length rule.targets ≡ count / 64 + 1
  pub sources_past : (i : ℕ) → count ≤ i → has rule.sources i ≡ false
  pub targets_past : (i : ℕ) → count ≤ i → has rule.targets i ≡ false

-- The rows of all kept rules fit.
pub record FitsRules (count : ℕ) (allows neverallows silences : List Kept) : Type 0 where
  pub allowing : All (FitsRule count) allows
  pub forbidding : All (FitsRule count) neverallows
  pub silencing : All (FitsRule count) silences

-- This is the invariant of built rules.
pub record IsSound (count : ℕ) (allows neverallows silences : List Kept) (permissive : List ℕ) : Type 0 where
  pub few : length allows + length neverallows < 2 ^ 64
  pub fits : FitsRules count allows neverallows silences
  pub room : length permissive ≡ count / 64 + 1

-- ---- the rules of a source, and the kept ones

-- A rule is kept if it selects one of the two classes.
abbrev pub kept_only : ℕ → Rule → Option (ℕ × Rule)
kept_only line rule = if is_kept rule then Some (line, rule) else None

-- This is the kept rule of a statement, with its line, if it is one of the kind.
abbrev pub rule_in : RuleKind → Statement → Option (ℕ × Rule)
rule_in kind statement = option_and_then (kept_only statement.line) (rule_of statement.what kind)

-- These are the kept rules of the kind in a source, each with its line.
abbrev pub rules_in : RuleKind → Policy → List (ℕ × Rule)
rules_in kind policy = filter_map (rule_in kind) policy

-- This is one of three lists, those of the allow, the neverallow and the dontaudit rules.
abbrev pub list_of : RuleKind → List Kept → List Kept → List Kept → List Kept
list_of Allow allows neverallows silences = allows
list_of Neverallow allows neverallows silences = neverallows
list_of Dontaudit allows neverallows silences = silences

-- A kept rule says of the types by number what a rule of the policy says of them by name.
pub record StandsFor (policy : Policy) (names : List Name) (written : ℕ × Rule) (kept : Kept) : Type 0 where
  pub line : kept.line ≡ written.0
  pub sources : (i : ℕ) → i < length names → has kept.sources i ≡ in_set policy written.1.source (at names i)
  pub targets : (i : ℕ) → i < length names → has kept.targets i ≡ in_set policy written.1.target (at names i)
  pub to_self : kept.to_self ≡ written.1.to_self
  pub perms : (b : ℕ) → b < 7 → has_bit kept.perms.0 b ≡ gives (class_at b) (perm_at b) written.1

-- Each kept rule represents the rule at the same index of the list.
abbrev pub AllStandFor : Policy → List Name → List (ℕ × Rule) → List Kept → Type 0
AllStandFor policy names [] [] = Unit {0}
AllStandFor policy names (r ∷ rs) (k ∷ ks) = StandsFor policy names r k × AllStandFor policy names rs ks
AllStandFor policy names [] (k ∷ ks) = ⊥
AllStandFor policy names (r ∷ rs) [] = ⊥

-- The list is extended by a kept rule that represents this one, if there is one.
abbrev pub Extends : Policy → List Name → Option (ℕ × Rule) → List Kept → List Kept → Type 0
Extends policy names None old new = new ≡ old
Extends policy names (Some rule) old new = (kept : Kept) × StandsFor policy names rule kept × (new ≡ old ++ kept ∷ [])

-- A kept rule covers by number what the rule of the policy covers by name, and has its line.
pub record Says (policy : Policy) (names : List Name) (written : ℕ × Rule) (kept : Kept) : Type 0 where
  pub line : kept.line ≡ written.0
  pub covers : (b s t : ℕ) → b < 7 → s < length names → t < length names
      → covers b s t kept ≡ access.covers policy (at names s) (at names t) (class_at b) (perm_at b) written.1

-- Each kept rule says what the rule at the same index of the list says, and each rule of the list has one.
pub record AllSay (policy : Policy) (names : List Name) (rules : List (ℕ × Rule)) (kept : List Kept) : Type 0 where
  pub of_kept : (n : ℕ) (k : Kept) → slice_get kept n ≡ Some k
      → (r : ℕ × Rule) × (slice_get rules n ≡ Some r) × Says policy names r k
  pub of_rule : (n : ℕ) (r : ℕ × Rule) → slice_get rules n ≡ Some r
      → (k : Kept) × (slice_get kept n ≡ Some k) × Says policy names r k

-- A row has the types that the statements make permissive.
pub record SaysPermissive (statements : Policy) (names : List Name) (row : List ℕ) : Type 0 where
  pub says : (i : ℕ) → i < length names → has row i ≡ is_permissive statements (at names i)

-- A row is extended by the types that a statement makes permissive.
pub record Permits (names : List Name) (what : What) (old new : List ℕ) : Type 0 where
  pub says : (i : ℕ) → i < length names → has new i ≡ (names_permissive (at names i) what || has old i)

-- Contracts see these of the rules: the number of types, the allow rules, the neverallow rules, the dontaudit rules,
-- and the permissive types.
pub record KeptRules : Type 0 where
  pub count : ℕ
  pub allows : List Kept
  pub neverallows : List Kept
  pub silences : List Kept
  pub permissive : List ℕ

-- These are the kept rules of the kind.
abbrev pub of_kind : RuleKind → KeptRules → List Kept
of_kind kind rules = list_of kind rules.allows rules.neverallows rules.silences

-- The rules are those of the policy, whose types have these names.
pub record RulesOf (policy : Policy) (names : List Name) (rules : KeptRules) : Type 0 where
  pub types : names ≡ types policy
  pub distinct : Distinct names
  pub count : rules.count ≡ length names
  pub kept : (kind : RuleKind) → AllStandFor policy names (rules_in kind policy) (of_kind kind rules)
  pub permissive : SaysPermissive policy names rules.permissive
  pub permissive_declared : (s : Name) → is_permissive policy s ≡ true → declares policy s ≡ true
  pub declared : (i : ℕ) → i < length names → declares policy (at names i) ≡ true

-- Whatever policy the rules are of, each kept one says what its rule of the kind at the same index says.
abbrev pub SayAs : RuleKind → KeptRules → List Kept → Type 0
SayAs kind rules kept = (policy : Policy) (names : List Name) → RulesOf policy names rules
    → AllSay policy names (rules_in kind policy) kept

-- Whatever policy the rules are of, the kept ones cover by number what its rules of the kind cover by name.
abbrev pub CoverAs : RuleKind → KeptRules → List Kept → Type 0
CoverAs kind rules kept = (policy : Policy) (names : List Name) → RulesOf policy names rules → (b s t : ℕ)
    → b < 7 → s < length names → t < length names
    → covered kept b s t ≡ access.some_covers kind policy (at names s) (at names t) (class_at b) (perm_at b)
