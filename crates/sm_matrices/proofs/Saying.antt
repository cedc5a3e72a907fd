-- What matrices of kept rules say of the policy.
use Rattle.std.proofs.Common.{◌≡◌, ◌∙◌, ℕ, ◌<◌, List, arith}
use Rattle.sm_ruletext.specs.declared.statement.RuleKind.{RuleKind}
use Rattle.sm_types.specs.Names.{Name}
use Rattle.sm_types.specs.Denoting.{Policy}
use Rattle.sm_rules.specs.Keeping.{CoverAs, KeptRules, RulesOf}
use Rattle.sm_rules.specs.declared.kept.Kept.{Kept}
use Rattle.sm_matrices.specs.Matrices.{AllCompiled, SayCovered}

-- Matrices of kept rules of a kind say what the policy's rules of that kind cover.
pub say_covered : (kind : RuleKind) (policy : Policy) (names : List Name) (rules : KeptRules) (kept : List Kept)
    (count : ℕ) (matrices : List (List (List ℕ))) → RulesOf policy names rules → AllCompiled kept count 7 matrices
    → count ≡ rules.count → CoverAs kind rules kept → SayCovered kind policy names matrices
say_covered kind policy names rules kept count matrices is compiled same cover = record {
  says = λ b s t low hs ht. (let inside : s < count = omega (arith, same, is.count) in
      (compiled.each b low).says s t inside ∙ cover policy names is b s t low hs ht);
}
