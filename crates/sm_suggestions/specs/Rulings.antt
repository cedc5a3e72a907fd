-- What the rules of a policy say of accesses.
use Rattle.std.specs.Prelude.{◌≡◌, ℕ, List, [], ◌∷◌}
use Rattle.sm_types.specs.Denoting.{types}
use Rattle.sm_types.specs.Names.{at}
use Rattle.sm_rules.specs.Keeping.{class_at, perm_at}
use Rattle.sm_policy.specs.Policy.{Policy, written_at}
use Rattle.sm_suggestions.specs.Verdicts.{forbidden_at}
use Rattle.sm_suggestions.specs.declared.ruling.Ruling.{Ruling}

-- A ruling has the lines of the first allow rule and of the first neverallow rule that cover the access of these types
-- and this permission, by their numbers.
pub record IsRuling (policy : Policy) (s t b : ℕ) (r : Ruling) : Type 0 where
  pub written : r.written
      ≡ written_at policy (at (types policy.statements) s) (at (types policy.statements) t) (class_at b) (perm_at b)
  pub forbidden : r.forbidden
      ≡ forbidden_at policy (at (types policy.statements) s) (at (types policy.statements) t) (class_at b) (perm_at b)

-- Each entry has what the rules say of the access that it names.
abbrev pub AreRulings : Policy → List (ℕ × Ruling) → Type 0
AreRulings policy [] = Unit {0}
AreRulings policy (e ∷ es) = IsRuling policy e.1.source e.1.target e.1.bit e.1 × AreRulings policy es
