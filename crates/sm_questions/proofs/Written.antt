-- An access is written if its line is there.
use Rattle.std.proofs.Common.{◌≡◌, ℕ, List, is_some, arith}
use Rattle.sm_values.specs.declared.class.Class.{Class}
use Rattle.sm_values.specs.declared.perms.Perms.{Perms}
use Rattle.sm_ruletext.specs.declared.statement.RuleKind.TheVariants.{Allow}
use Rattle.sm_rules.specs.Access.{covers_as}
use Rattle.sm_policy.specs.Policy.{Policy, written, written_at}
use Rattle.sm_policy.proofs.Finding.{is_some-find}

pub written_if : (policy : Policy) (source target : List ℕ) (class : Class) (perm : Perms)
    → is_some (written_at policy source target class perm) ≡ written policy source target class perm
unfolding written_at
written_if policy source target class perm =
    grind (arith, is_some-find (covers_as Allow policy.statements source target class perm) policy.statements)
