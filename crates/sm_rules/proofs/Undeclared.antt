-- Nothing is written of a type that isn't declared.
use Rattle.std.proofs.Common.{◌≡◌, ℕ, Bool, true, false, ◌&&◌, ◌||◌, None, refl}
use Rattle.std.specs.Str.{bytes_eq}
use Rattle.std.proofs.lemmas.Slice.Eq.{bytes_eq-Decides}
use Rattle.sm_values.specs.declared.class.Class.{Class}
use Rattle.sm_values.specs.declared.perms.Perms.{Perms}
use Rattle.sm_ruletext.specs.Items.{Set}
use Rattle.sm_ruletext.specs.declared.rule.Rule.{Rule}
use Rattle.sm_ruletext.specs.declared.statement.RuleKind.TheVariants.{Allow}
use Rattle.sm_types.specs.Names.{Name}
use Rattle.sm_types.specs.Denoting.{Policy, declares, in_set}
use Rattle.sm_rules.specs.Access as access
use Rattle.sm_rules.specs.Access.{written_line}
use Rattle.sm_rules.specs.Keeping.{rules_in}
use Rattle.sm_rules.proofs.Lines.{lines_of, none_found}

not_in : (policy : Policy) (set : Set) (t : Name) → declares policy t ≡ false → in_set policy set t ≡ false
not_in policy set t h = rw h refl

no_source : (policy : Policy) (s t : Name) (r : Rule) → declares policy s ≡ false → access.joins policy s t r ≡ false
unfolding access.joins
no_source policy s t r h = rw (not_in policy r.source s h) refl

no_target : (policy : Policy) (s t : Name) (r : Rule) → declares policy t ≡ false → access.joins policy s t r ≡ false
unfolding access.joins
no_target policy s t r h = by (bytes_eq s t) refl where
  nothing : (x y : Bool) → (x && (false || (y && false))) ≡ false
  nothing true true = refl
  nothing true false = refl
  nothing false y = refl

  by : (b : Bool) → bytes_eq s t ≡ b →
      (in_set policy r.source s && (in_set policy r.target t || (r.to_self && bytes_eq s t))) ≡ false
  by true e = (let same : s ≡ t = (bytes_eq-Decides s t).0 e in
      let none : in_set policy r.source s ≡ false = rw same (not_in policy r.source t h) in rw none refl)
  by false e = rw (not_in policy r.target t h, e) (nothing (in_set policy r.source s) r.to_self)

pub no_line_of_source : (policy : Policy) (s t : Name) (class : Class) (perm : Perms) → declares policy s ≡ false
    → None ≡ written_line policy s t class perm
no_line_of_source policy s t class perm h =
    rw (
      lines_of policy s t class perm policy,
      none_found (λ (r : ℕ × Rule). access.covers policy s t class perm r.1) (rules_in Allow policy)
          (λ r. rw (no_source policy s t r.1 h) refl),
    ) refl

pub no_line_of_target : (policy : Policy) (s t : Name) (class : Class) (perm : Perms) → declares policy t ≡ false
    → None ≡ written_line policy s t class perm
no_line_of_target policy s t class perm h =
    rw (
      lines_of policy s t class perm policy,
      none_found (λ (r : ℕ × Rule). access.covers policy s t class perm r.1) (rules_in Allow policy)
          (λ r. rw (no_target policy s t r.1 h) refl),
    ) refl
