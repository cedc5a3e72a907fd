use Rattle.std.proofs.Common.{◌≡◌, ℕ, List}
use Rattle.sm_ruletext.specs.declared.statement.Statement.{Statement}
use Rattle.sm_rules.specs.Keeping.{RulesOf}
use Rattle.sm_violations.specs.Listing.{violations_left}
use Rattle.sm_violations.proofs.violations.next_from.Given as goal

abbrev pub invariant-loop-rule : goal.invariant-loop-rule
invariant-loop-rule l = (policy : List Statement) (names : List (List ℕ)) → RulesOf policy names l.rules
    → violations_left policy l.rule l.start ≡ violations_left policy l.fn.never l.fn.allow
