-- What is decided of types by their numbers, and of names that aren't declared.
use Rattle.std.proofs.Common.{◌≡◌, ℕ, ◌<◌, true, false, ◌&&◌, List, []}
use Rattle.std.proofs.Common.{length, Some, None, is_some, refl, sym, ◌∙◌, arith}
use Rattle.std.specs.Prelude.{position}
use Rattle.std.specs.Str.{bytes_eq}
use Rattle.std.proofs.lemmas.List.Quantifiers.{position-Some}
use Rattle.std.proofs.lemmas.Slice.Eq.{bytes_eq-Decides}
use Rattle.sm_values.specs.Permissions.{perm_of}
use Rattle.sm_values.specs.declared.class.Class.{Class}
use Rattle.sm_values.specs.declared.perms.Perms.{Perms}
use Rattle.sm_ruletext.specs.declared.rule.Rule.{Rule}
use Rattle.sm_ruletext.specs.declared.statement.RuleKind.TheVariants.{Allow, Dontaudit}
use Rattle.sm_types.specs.Names.{Name, at}
use Rattle.sm_types.specs.Denoting.{Policy, types, declares}
use Rattle.sm_types.proofs.Accepted.{declares_type}
use Rattle.sm_rules.specs.Access.{joins, is_permissive, allowed, audits}
use Rattle.sm_rules.proofs.Consistent.{uncovered}
use Rattle.sm_matrices.specs.Tables.{refusal}
use Rattle.sm_policy.proofs.Finding.{unplaced}

-- ---- names that aren't declared

no_source : (policy : Policy) (s t : Name) (r : Rule) → declares policy s ≡ false → joins policy s t r ≡ false
unfolding joins
no_source policy s t r h = rw h refl

no_target : (policy : Policy) (s t : Name) (r : Rule) → declares policy t ≡ false → joins policy s t r ≡ false
unfolding joins
no_target policy s t r h =
    grind (arith, bytes_eq-Decides s t)

-- What has no number isn't declared.
undeclared : (policy : Policy) (s : Name) → position (bytes_eq s) (types policy) ≡ None → declares policy s ≡ false
undeclared policy s none =
    sym (declares_type s policy) ∙ unplaced (bytes_eq s) (types policy) none

-- A check of what isn't declared passes nowhere, and is audited.
refusal_is : (policy : Policy) (s t : Name) (class : Class) (perm : Perms) → ((r : Rule) → joins policy s t r ≡ false)
    → (is_permissive policy s && (declares policy t && is_some (perm_of class perm))) ≡ false
    → refusal ≡ record { allowed = allowed policy s t class perm; audited = audits policy s t class perm }
refusal_is policy s t class perm none strict =
    grind (arith, none, strict, uncovered Allow policy s t class perm, uncovered Dontaudit policy s t class perm)

pub refused_source : (policy : Policy) (s t : Name) (class : Class) (perm : Perms)
    → (is_permissive policy s ≡ true → declares policy s ≡ true) → position (bytes_eq s) (types policy) ≡ None
    → refusal ≡ record { allowed = allowed policy s t class perm; audited = audits policy s t class perm }
refused_source policy s t class perm known none =
    let h : declares policy s ≡ false = undeclared policy s none in
    refusal_is policy s t class perm (λ r. no_source policy s t r h) (grind (arith, known, h))

pub refused_target : (policy : Policy) (s t : Name) (class : Class) (perm : Perms)
    → position (bytes_eq t) (types policy) ≡ None
    → refusal ≡ record { allowed = allowed policy s t class perm; audited = audits policy s t class perm }
refused_target policy s t class perm none =
    let h : declares policy t ≡ false = undeclared policy t none in
    refusal_is policy s t class perm (λ r. no_target policy s t r h) (grind (arith, h))

-- ---- numbers

-- A number that a name has.
pub named : (policy : Policy) (names : List Name) (s : Name) (i : ℕ) → names ≡ types policy
    → position (bytes_eq s) (types policy) ≡ Some i → (i < length names) × (at names i ≡ s)
named policy names s i of found =
    let p = position-Some (bytes_eq s) names i [] (rw of found) in
    (p.0, sym ((bytes_eq-Decides s (at names i)).0 p.1))

pub ruleset deciding = (refused_source, refused_target, named)
