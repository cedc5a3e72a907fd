-- From one statement to the next.
use Rattle.std.proofs.Common.{◌≡◌, ◌∙◌, ℕ, zero, suc, ◌+◌, ◌<◌, ◌≤◌, Bool, true, false, List, [], ◌∷◌, ◌++◌, length}
use Rattle.std.proofs.Common.{take, get_or, Option, Some, None, refl, sym, ap, arith, cond, option_and_then}
use Rattle.std.proofs.Common.{length-append}
use Rattle.std.proofs.lemmas.List.{length-take}
use Rattle.std.specs.Prelude.{filter, slice_get}
use Rattle.std.specs.List.{cons_option, filter_map, flat_map}
use Rattle.std.specs.Option.{option_or}
use Rattle.sm_ruletext.specs.Kept.{is_kept}
use Rattle.sm_ruletext.specs.declared.rule.Rule.{Rule}
use Rattle.sm_ruletext.specs.declared.statement.RuleKind.{RuleKind}
use Rattle.sm_ruletext.specs.declared.statement.RuleKind.TheVariants.{Allow, Neverallow, Dontaudit}
use Rattle.sm_ruletext.specs.declared.statement.Statement.{Statement}
use Rattle.sm_rules.specs.Access.{rule_of}
use Rattle.sm_rules.specs.Keeping.{kept_only, rule_in, rules_in}
use Rattle.sm_rules.proofs.Standing.{picked_more}
use Rattle.sm_policy.specs.Policy.{Policy}
use Rattle.sm_policy.proofs.Finding.{filter_map_len}
use Rattle.sm_questions.specs.Covering.{AreQuotes, IsNext, lists_rule, passed_of, statement_lines}
use Rattle.sm_questions.specs.RuleLines.{asked_rule, covers_some, listed_rules, rule_lines}
use Rattle.sm_questions.specs.Shown.{shown_statement}
use Rattle.sm_questions.specs.declared.passed.Passed.{Passed}
use Rattle.sm_questions.specs.declared.quotes.Quotes.{Quotes}
use Rattle.sm_questions.specs.declared.rule_filter.RuleFilter.{RuleFilter}

-- ---- lists

-- What is given of an item is behind what is given of those before it.
given_at : {A B : Type 0} (f : A → Option B) (xs : List A) (i : ℕ) (d : A) (y : B) → i < length xs
    → f (get_or xs i d) ≡ Some y → slice_get (filter_map f xs) (length (filter_map f (take i xs))) ≡ Some y
given_at f [] i d y lt e = absurd (omega arith)
given_at f (x ∷ xs) zero d y lt e = rw e refl
given_at {A} {B} f (x ∷ xs) (suc i) d y lt e = behind (f x) (given_at f xs i d y (omega arith) e) where
  behind : (o : Option B) → slice_get (filter_map f xs) (length (filter_map f (take i xs))) ≡ Some y
      → slice_get (cons_option o (filter_map f xs)) (length (cons_option o (filter_map f (take i xs)))) ≡ Some y
  behind None rest = rest
  behind (Some z) rest = rest

-- ---- kept rules that are passed

-- The kept rules of the first statements are passed.
abbrev pub ArePassed : Policy → ℕ → Passed → Type 0
ArePassed policy i passed = (kind : RuleKind) → passed_of kind passed ≡ length (rules_in kind (take i policy.statements))

pub next_is : (policy : Policy) (passed : Passed) (i : ℕ) (st : Statement) → i < length policy.statements
    → st ≡ get_or policy.statements i st → ArePassed policy i passed → IsNext policy passed st
next_is policy passed i st lt is are = record {
  there = λ kind r e. rw (are kind) (given_at (rule_in kind) policy.statements i st r lt (rw (← is) e));
}

pub passed_more : (policy : Policy) (old new : Passed) (i : ℕ) (st : Statement) → i < length policy.statements
    → st ≡ get_or policy.statements i st → ArePassed policy i old
    → ((kind : RuleKind) → passed_of kind new ≡ passed_of kind old + length (cons_option (rule_in kind st) []))
    → ArePassed policy (i + 1) new
passed_more policy old new i st lt is are more kind =
    rw (picked_more (rule_in kind) policy.statements i st lt is, length-append) (more kind ∙ rw (are kind) refl)

pub passed_few : (policy : Policy) (passed : Passed) (i : ℕ) (kind : RuleKind) → ArePassed policy i passed
    → passed_of kind passed ≤ i
passed_few policy passed i kind are =
    let few = filter_map_len (rule_in kind) (take i policy.statements) in
    rw (are kind) (omega (arith, length-take i policy.statements))

-- ---- lines

kept_line : (line : ℕ) (o : Option Rule) (r : ℕ × Rule) → option_and_then (kept_only line) o ≡ Some r → r.0 ≡ line
kept_line line None r h = absurd cc
kept_line line (Some rule) r h = by (is_kept rule) h where
  by : (k : Bool) → cond k (Some (line, rule)) None ≡ Some r → r.0 ≡ line
  by true e = let same : (line, rule) ≡ r = cc in ap (λ (q : ℕ × Rule). q.0) (sym same)
  by false e = absurd cc

rule_line : (kind : RuleKind) (st : Statement) (r : ℕ × Rule) → rule_in kind st ≡ Some r → r.0 ≡ st.line
rule_line kind st r h = kept_line st.line (rule_of st.what kind) r h

-- A rule that is asked for has the line of its statement.
asked_line : (wanted : Option RuleKind) (st : Statement) (r : ℕ × Rule) → asked_rule wanted st ≡ Some r → r.0 ≡ st.line
asked_line (Some kind) st r h = rule_line kind st r h
asked_line None st r h = first (rule_in Allow st) (rule_in Neverallow st) refl refl h where
  first : (a n : Option (ℕ × Rule)) → rule_in Allow st ≡ a → rule_in Neverallow st ≡ n
      → option_or a (option_or n (rule_in Dontaudit st)) ≡ Some r
      → r.0 ≡ st.line
  first (Some q) n e f g = rule_line Allow st r (e ∙ g)
  first None (Some q) e f g = rule_line Neverallow st r (f ∙ g)
  first None None e f g = rule_line Dontaudit st r g

module _ (path text : List ℕ) (policy : Policy) (asked : RuleFilter) where
  one_statement : (st : Statement) (o : Option (ℕ × Rule)) (rest : List (ℕ × Rule))
      → ((r : ℕ × Rule) → o ≡ Some r → r.0 ≡ st.line)
      → (cond (lists_rule policy asked o) (shown_statement path text st.line) []
      ++ flat_map (λ (r : ℕ × Rule). shown_statement path text r.0)
      (filter (λ (r : ℕ × Rule). covers_some policy.statements asked.accesses r.1) rest))
      ≡ flat_map (λ (r : ℕ × Rule). shown_statement path text r.0)
      (filter (λ (r : ℕ × Rule). covers_some policy.statements asked.accesses r.1) (cons_option o rest))
  one_statement st None rest line = refl
  one_statement st (Some r) rest line =
      by (covers_some policy.statements asked.accesses r.1) (line r refl) where
        by : (c : Bool) → r.0 ≡ st.line
            → (cond c (shown_statement path text st.line) []
            ++ flat_map (λ (q : ℕ × Rule). shown_statement path text q.0)
            (filter (λ (q : ℕ × Rule). covers_some policy.statements asked.accesses q.1) rest))
            ≡ flat_map (λ (q : ℕ × Rule). shown_statement path text q.0)
            (cond c (r ∷ filter (λ (q : ℕ × Rule). covers_some policy.statements asked.accesses q.1) rest)
            (filter (λ (q : ℕ × Rule). covers_some policy.statements asked.accesses q.1) rest))
        by true e = rw e refl
        by false e = refl

  among : (sts : List Statement) → flat_map (statement_lines path text policy asked) sts
      ≡ flat_map (λ (r : ℕ × Rule). shown_statement path text r.0)
      (filter (λ (r : ℕ × Rule). covers_some policy.statements asked.accesses r.1)
      (filter_map (asked_rule asked.kind) sts))
  among [] = refl
  among (st ∷ sts) = rw (among sts)
      (one_statement st (asked_rule asked.kind st) (filter_map (asked_rule asked.kind) sts) (asked_line asked.kind st))

  -- The lines for all statements are those for the rules that are listed.
  pub all_statements : flat_map (statement_lines path text policy asked) policy.statements
      ≡ rule_lines path text policy asked
  unfolding rule_lines listed_rules
  all_statements = among policy.statements

pub quotes_again : (path text : List ℕ) (quotes : Quotes) → AreQuotes path text quotes
    → AreQuotes quotes.path.now quotes.text.now quotes
quotes_again path text quotes is = record {
  of_path = refl;
  of_text = refl;
  starts = rw is.of_text is.starts;
  line = rw (is.of_path, is.of_text) is.line;
}
