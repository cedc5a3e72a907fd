-- How the rules that are listed are found: by the numbers of types, and rule by rule.
use Rattle.std.specs.Prelude.{◌≡◌, ◌<◌, ◌/◌, ◌+◌, ℕ, Bool, true, false, ◌&&◌, if◌then◌else◌, List, [], length}
use Rattle.std.specs.Prelude.{Option, Some, None, IfSome, slice_get}
use Rattle.sm_bits.specs.Bits.{has, has_bit}
use Rattle.sm_ruletext.specs.declared.rule.Rule.{Rule}
use Rattle.sm_ruletext.specs.declared.statement.RuleKind.{RuleKind}
use Rattle.sm_ruletext.specs.declared.statement.RuleKind.TheVariants.{Allow, Neverallow, Dontaudit}
use Rattle.sm_ruletext.specs.declared.statement.Statement.{Statement}
use Rattle.sm_types.specs.Names.{at}
use Rattle.sm_types.specs.Denoting.{types}
use Rattle.sm_rules.specs.Keeping.{joins, rule_in, rules_in}
use Rattle.sm_rules.specs.declared.kept.Kept.{Kept}
use Rattle.sm_policy.specs.Policy.{Policy}
use Rattle.sm_questions.specs.Accesses.{is_left}
use Rattle.sm_questions.specs.LineStarts.{AreStarts}
use Rattle.sm_questions.specs.RuleLines.{asked_rule, covers_some}
use Rattle.sm_questions.specs.Shown.{shown_statement}
use Rattle.sm_questions.specs.declared.filtering.Filter.{Filter}
use Rattle.sm_questions.specs.declared.left.Left.{Left}
use Rattle.sm_questions.specs.declared.passed.Passed.{Passed}
use Rattle.sm_questions.specs.declared.quotes.Quotes.{Quotes}
use Rattle.sm_questions.specs.declared.rule_filter.RuleFilter.{RuleFilter}

-- ---- what is left, by number

-- The rows of what is left have room for the types, and the third one has what the first two have in common.
pub record IsWhole (count : ℕ) (left : Left) : Type 0 where
  pub sources : length left.sources ≡ count / 64 + 1
  pub targets : length left.targets ≡ count / 64 + 1
  pub own : length left.own ≡ count / 64 + 1
  pub common : (i : ℕ) → has left.own i ≡ (has left.sources i && has left.targets i)

-- The rows are those of the types that the filter leaves, and the permissions are those that it leaves.
pub record AreLeft (policy : Policy) (accesses : Filter) (left : Left) : Type 0 where
  pub whole : IsWhole (length (types policy.statements)) left
  pub sources : (i : ℕ) → i < length (types policy.statements)
      → has left.sources i ≡ is_left accesses.source (at (types policy.statements) i)
  pub targets : (i : ℕ) → i < length (types policy.statements)
      → has left.targets i ≡ is_left accesses.target (at (types policy.statements) i)
  pub perms : left.perms ≡ accesses.perms

-- Both types are left, and the rule joins them.
abbrev pub joins_at : Left → Kept → ℕ → ℕ → Bool
joins_at left rule s t = (has left.sources s && has left.targets t) && joins s t rule

-- The permission is left, and the rule has it.
abbrev pub grants_at : Left → Kept → ℕ → Bool
grants_at left rule b = has_bit left.perms.0 b && has_bit rule.perms.0 b

-- ---- rule by rule

-- A rule of this kind is asked for.
abbrev pub is_asked : Option RuleKind → RuleKind → Bool
is_asked None kind = true
is_asked (Some Allow) Allow = true
is_asked (Some Neverallow) Neverallow = true
is_asked (Some Dontaudit) Dontaudit = true
is_asked wanted kind = false

-- A rule is listed, if there is one.
abbrev pub lists_rule : Policy → RuleFilter → Option (ℕ × Rule) → Bool
lists_rule policy asked None = false
lists_rule policy asked (Some r) = covers_some policy.statements asked.accesses r.1

-- A statement is a rule that is listed.
abbrev pub lists : Policy → RuleFilter → Statement → Bool
lists policy asked statement = lists_rule policy asked (asked_rule asked.kind statement)

-- This is the line for a statement, if it is a rule that is listed.
abbrev pub statement_lines : List ℕ → List ℕ → Policy → RuleFilter → Statement → List ℕ
statement_lines path text policy asked statement =
    if lists policy asked statement then shown_statement path text statement.line else []

-- This is the number of kept rules of a kind that are passed.
abbrev pub passed_of : RuleKind → Passed → ℕ
passed_of Allow passed = passed.allows
passed_of Neverallow passed = passed.neverallows
passed_of Dontaudit passed = passed.silences

-- If the statement is a kept rule of a kind, it is the first one of them that isn't passed.
pub record IsNext (policy : Policy) (passed : Passed) (statement : Statement) : Type 0 where
  pub there : (kind : RuleKind) (r : ℕ × Rule) → rule_in kind statement ≡ Some r
      → slice_get (rules_in kind policy.statements) (passed_of kind passed) ≡ Some r

-- The statements are those of the file of this path and text, and the line that is kept is that of its number.
pub record AreQuotes (path text : List ℕ) (quotes : Quotes) : Type 0 where
  pub of_path : quotes.path.now ≡ path
  pub of_text : quotes.text.now ≡ text
  pub starts : AreStarts text quotes.starts.items
  pub line : IfSome quotes.number (λ n. quotes.line.items ≡ shown_statement path text n)
