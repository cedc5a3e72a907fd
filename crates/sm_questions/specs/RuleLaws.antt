-- What the laws of the rules that are listed speak of.
use Rattle.std.specs.Prelude.{◌≡◌, ℕ, true, List, Some, is_some}
use Rattle.sm_values.specs.declared.class.Class.{Class}
use Rattle.sm_values.specs.declared.perms.Perms.{Perms}
use Rattle.sm_values.specs.Permissions.{perm_of}
use Rattle.sm_types.specs.Denoting.{declares}
use Rattle.sm_policy.specs.Policy.{Policy}
use Rattle.sm_questions.specs.declared.filtering.Filter.{Filter}
use Rattle.sm_questions.specs.declared.filtering.Target.TheVariants as target
use Rattle.sm_questions.specs.declared.rule_filter.RuleOptions.{RuleOptions}

-- A filter leaves a single access: it asks for the source, the target and the permission, which is one of the class.
pub record LeavesOne (policy : Policy) (accesses : Filter) (s t : List ℕ) (class : Class) (perm : Perms) : Type 0 where
  pub source : accesses.source ≡ Some s
  pub target : accesses.target ≡ Some t
  pub perms : accesses.perms ≡ perm
  pub single : is_some (perm_of class perm) ≡ true
  pub source_declared : declares policy.statements s ≡ true
  pub target_declared : declares policy.statements t ≡ true

-- These are the options for a kind and the words of an access.
abbrev pub options_for : List ℕ → List ℕ → List ℕ → List ℕ → List ℕ → RuleOptions
options_for kind s t class perm = record {
  kind = Some kind;
  accesses = record {
    source = Some s;
    target = target.Type t;
    class = Some class;
    perm = Some perm;
  };
}
