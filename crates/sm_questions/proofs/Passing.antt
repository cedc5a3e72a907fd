-- Statements that are rules which are listed.
use Rattle.std.proofs.Common.{◌≡◌, true, Option, Some, None, refl}
use Rattle.std.specs.Prelude.{slice_get}
use Rattle.sm_ruletext.specs.Kept.{is_kept}
use Rattle.sm_ruletext.specs.declared.rule.Rule.{Rule}
use Rattle.sm_ruletext.specs.declared.statement.RuleKind.{RuleKind}
use Rattle.sm_ruletext.specs.declared.statement.RuleKind.TheVariants.{Allow, Neverallow, Dontaudit}
use Rattle.sm_ruletext.specs.declared.statement.What.TheVariants as what
use Rattle.sm_ruletext.specs.declared.statement.Statement.{Statement}
use Rattle.sm_types.specs.Denoting.{types}
use Rattle.sm_rules.specs.Keeping.{KeptRules, RulesOf, Says, of_kind, rule_in, rules_in}
use Rattle.sm_rules.specs.declared.kept.Kept.{Kept}
use Rattle.sm_rules.proofs.Consistent.{all_say}
use Rattle.sm_policy.specs.Policy.{Policy}
use Rattle.sm_questions.specs.Covering.{IsNext, is_asked, lists, passed_of}
use Rattle.sm_questions.specs.RuleLines.{asked_rule, covers_some}
use Rattle.sm_questions.specs.declared.passed.Passed.{Passed}
use Rattle.sm_questions.specs.declared.rule_filter.RuleFilter.{RuleFilter}

-- A statement that is a kept rule of a kind.
there : (kind : RuleKind) (st : Statement) (rule : Rule) → st.what ≡ what.Rule kind rule → is_kept rule ≡ true
    → rule_in kind st ≡ Some (st.line, rule)
there Allow st rule is kept = rw (is, kept) refl
there Neverallow st rule is kept = rw (is, kept) refl
there Dontaudit st rule is kept = rw (is, kept) refl

asked_there : (wanted : Option RuleKind) (kind : RuleKind) (st : Statement) (rule : Rule) → st.what ≡ what.Rule kind rule
    → is_kept rule ≡ true → is_asked wanted kind ≡ true → asked_rule wanted st ≡ Some (st.line, rule)
asked_there None Allow st rule is kept h = rw (is, kept) refl
asked_there None Neverallow st rule is kept h = rw (is, kept) refl
asked_there None Dontaudit st rule is kept h = rw (is, kept) refl
asked_there (Some Allow) Allow st rule is kept h = rw (is, kept) refl
asked_there (Some Neverallow) Neverallow st rule is kept h = rw (is, kept) refl
asked_there (Some Dontaudit) Dontaudit st rule is kept h = rw (is, kept) refl
asked_there (Some Allow) Neverallow st rule is kept h = absurd cc
asked_there (Some Allow) Dontaudit st rule is kept h = absurd cc
asked_there (Some Neverallow) Allow st rule is kept h = absurd cc
asked_there (Some Neverallow) Dontaudit st rule is kept h = absurd cc
asked_there (Some Dontaudit) Allow st rule is kept h = absurd cc
asked_there (Some Dontaudit) Neverallow st rule is kept h = absurd cc

pub lists_there : (policy : Policy) (asked : RuleFilter) (st : Statement) (kind : RuleKind) (rule : Rule)
    → st.what ≡ what.Rule kind rule → is_kept rule ≡ true → is_asked asked.kind kind ≡ true
    → lists policy asked st ≡ covers_some policy.statements asked.accesses rule
lists_there policy asked st kind rule is kept h = rw (asked_there asked.kind kind st rule is kept h) refl

-- The first kept rule that isn't passed is that of the statement.
pub says_next : (policy : Policy) (rules : KeptRules) (passed : Passed) (st : Statement) (kind : RuleKind) (rule : Rule)
    → RulesOf policy.statements (types policy.statements) rules → IsNext policy passed st
    → st.what ≡ what.Rule kind rule → is_kept rule ≡ true
    → (k : Kept) × (slice_get (of_kind kind rules) (passed_of kind passed) ≡ Some k)
    × Says policy.statements (types policy.statements) (st.line, rule) k
says_next policy rules passed st kind rule ruled next is kept =
    let say = all_say policy.statements (types policy.statements) (rules_in kind policy.statements)
    (of_kind kind rules) ruled.distinct (ruled.kept kind) in
    say.of_rule (passed_of kind passed) (st.line, rule) (next.there kind (st.line, rule) (there kind st rule is kept))
