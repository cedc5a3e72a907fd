-- The first neverallow rule that covers an access, by number and by name.
use Rattle.std.proofs.Common.{◌≡◌, ℕ, ◌<◌, Bool, true, false, cond, List, [], ◌∷◌, length, find, option_map}
use Rattle.std.proofs.Common.{Option, Some, None, IfSome, refl, sym, ap}
use Rattle.std.specs.Prelude.{position}
use Rattle.std.specs.Str.{bytes_eq}
use Rattle.sm_ruletext.specs.declared.rule.Rule.{Rule}
use Rattle.sm_ruletext.specs.declared.statement.RuleKind.TheVariants.{Neverallow}
use Rattle.sm_ruletext.specs.declared.statement.Statement.{Statement}
use Rattle.sm_types.specs.Names.{Name, at, Distinct}
use Rattle.sm_types.specs.Denoting.{types}
use Rattle.sm_types.specs.Members.{IsOf}
use Rattle.sm_types.specs.declared.table.Table.{Table}
use Rattle.sm_rules.specs.Access as access
use Rattle.sm_rules.specs.Keeping.{AllStandFor, KeptRules, RulesOf, class_at, covered_line, covers, perm_at, rules_in}
use Rattle.sm_rules.specs.declared.kept.Kept.{Kept}
use Rattle.sm_rules.proofs.Lines.{stands_covers}
use Rattle.sm_policy.specs.Policy.{Policy}
use Rattle.sm_policy.proofs.Looking.{named}
use Rattle.sm_suggestions.specs.Verdicts.{forbidden_at}

lines_stand : (policy : List Statement) (names : List Name) (rs : List (ℕ × Rule)) (ks : List Kept) (b s t : ℕ)
    → Distinct names → s < length names → t < length names → b < 7 → AllStandFor policy names rs ks
    → covered_line ks b s t ≡ option_map (λ (r : ℕ × Rule). r.0)
    (find (λ r. access.covers policy (at names s) (at names t) (class_at b) (perm_at b) r.1) rs)
lines_stand policy names [] [] b s t distinct hs ht hb all = refl
lines_stand policy names [] (k ∷ ks) b s t distinct hs ht hb all = absurd all
lines_stand policy names (r ∷ rs) [] b s t distinct hs ht hb all = absurd all
lines_stand policy names (r ∷ rs) (k ∷ ks) b s t distinct hs ht hb all =
    rw (stands_covers policy names r k b s t distinct hs ht hb all.0)
    (by (access.covers policy (at names s) (at names t) (class_at b) (perm_at b) r.1) all.0.line
    (lines_stand policy names rs ks b s t distinct hs ht hb all.1))
  where
    by : (c : Bool) → k.line ≡ r.0
        → covered_line ks b s t ≡ option_map (λ (q : ℕ × Rule). q.0)
        (find (λ q. access.covers policy (at names s) (at names t) (class_at b) (perm_at b) q.1) rs)
        → option_map (λ (j : Kept). j.line) (cond c (Some k) (find (covers b s t) ks))
        ≡ option_map (λ (q : ℕ × Rule). q.0)
        (cond c (Some r) (find (λ q. access.covers policy (at names s) (at names t) (class_at b) (perm_at b) q.1) rs))
    by true line rest = ap (λ (n : ℕ). Some n) line
    by false line rest = rest

-- What the kept neverallow rules say by number is what the text says by name.
pub forbidden_is : (policy : Policy) (names : List Name) (rules : KeptRules) (b s t : ℕ)
    → RulesOf policy.statements names rules → s < length names → t < length names → b < 7
    → covered_line rules.neverallows b s t
    ≡ forbidden_at policy (at names s) (at names t) (class_at b) (perm_at b)
unfolding forbidden_at
forbidden_is policy names rules b s t is hs ht hb =
    lines_stand policy.statements names (rules_in Neverallow policy.statements) rules.neverallows b s t is.distinct hs
    ht hb (is.kept Neverallow)

-- The number of a type is one of those of the policy.
pub number_within : (policy : List Statement) (table : Table) (name : List ℕ) (r : Option ℕ) → IsOf policy table
    → r ≡ position (bytes_eq name) table.symbols.types → IfSome r (λ i. i < length (types policy))
number_within policy table name None is e = tt
number_within policy table name (Some i) is e =
    let here = rw is.types at e in let found = named policy (types policy) name i refl (sym here) in found.0

-- The type of this number has the name.
pub number_named : (policy : List Statement) (table : Table) (name : List ℕ) (r : Option ℕ) → IsOf policy table
    → r ≡ position (bytes_eq name) table.symbols.types → IfSome r (λ i. at (types policy) i ≡ name)
number_named policy table name None is e = tt
number_named policy table name (Some i) is e =
    let here = rw is.types at e in let found = named policy (types policy) name i refl (sym here) in found.1
