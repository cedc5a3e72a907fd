-- What `svcmgr diff --rules` writes.
use Rattle.std.specs.Prelude.{ℕ, zero, suc, ◌+◌, Bool, true, false, nat_eq, max, if◌then◌else◌, List, [], ◌∷◌, ◌++◌}
use Rattle.std.specs.Prelude.{Option, Some, None, codes, count_by, map}
use Rattle.std.specs.List.{flat_map}
use Rattle.sm_values.specs.Messages.{numbered}
use Rattle.sm_ruletext.specs.declared.rule.Rule.{Rule}
use Rattle.sm_ruletext.specs.declared.statement.RuleKind.TheVariants.{Allow}
use Rattle.sm_types.specs.Denoting.{types}
use Rattle.sm_types.specs.Names.{Name}
use Rattle.sm_rules.specs.Keeping.{class_at, perm_at, rules_in}
use Rattle.sm_policy.specs.Policy.{Policy, written_at}
use Rattle.sm_questions.specs.Accesses.{perm_numbers}
use Rattle.sm_questions.specs.Differences.{is_lost, lost_line, rest}
use Rattle.sm_questions.specs.Shown.{shown_statement}

-- An access has a source, a target and a permission, which is given by its number.
pub record Access : Type 0 where
  pub source : Name
  pub target : Name
  pub perm : ℕ

-- This is the access, if only the first policy allows it.
unfoldable pub lost_access : Policy → Policy → Name → Name → ℕ → List Access
lost_access one other s t b =
    if is_lost one other s t b then record { source = s; target = t; perm = b } ∷ [] else []

-- These are the accesses of a source and a target that only the first policy allows.
unfoldable pub lost_of_pair : Policy → Policy → Name → Name → List Access
lost_of_pair one other s t = flat_map (lost_access one other s t) perm_numbers

-- These are the accesses of a source that only the first policy allows.
unfoldable pub lost_of_source : Policy → Policy → Name → List Access
lost_of_source one other s = flat_map (lost_of_pair one other s) (types one.statements)

-- These are all accesses that only the first policy allows, in the order of their lines.
unfoldable pub lost_accesses : Policy → Policy → List Access
lost_accesses one other = flat_map (lost_of_source one other) (types one.statements)

-- This is the line of `svcmgr diff` for an access.
abbrev pub access_text : ℕ → Access → List ℕ
access_text sign a = lost_line sign a.source a.target a.perm

-- This is the line of the first allow rule that grants an access.
abbrev pub granting_line : Policy → Access → Option ℕ
granting_line policy a = written_at policy a.source a.target (class_at a.perm) (perm_at a.perm)

-- Both are the same line, or there is none.
abbrev pub is_same_line : Option ℕ → Option ℕ → Bool
is_same_line None None = true
is_same_line (Some n) (Some m) = nat_eq n m
is_same_line one other = false

-- This is the number of accesses that only the first policy allows, of those that the rule of a line grants first. If
-- there is no line, it is the number of those that no rule grants.
unfoldable pub lost_by : Policy → Policy → Option ℕ → ℕ
lost_by one other line = count_by (λ a. is_same_line line (granting_line one a)) (lost_accesses one other)

-- The count and the words are written behind a sign, unless the count is 0.
abbrev pub counted : ℕ → ℕ → List ℕ → List ℕ
counted sign n words = if nat_eq n 0 then [] else sign ∷ 32 ∷ (numbered [] n ++ codes " " ++ words)

-- These are the words for the rules of a line in a file of this path and text, or for no rule.
abbrev pub granting_words : List ℕ → List ℕ → Option ℕ → List ℕ
granting_words path text None = codes "permissive\n"
granting_words path text (Some n) = shown_statement path text n

-- This is the line for the rules of a line, or for no rule.
abbrev pub change_line : ℕ → List ℕ → List ℕ → Policy → Policy → Option ℕ → List ℕ
change_line sign path text one other line =
    counted sign (lost_by one other line) (granting_words path text line)

-- These are so many numbers, from the first one on.
abbrev pub numbers_from : ℕ → ℕ → List ℕ
numbers_from first zero = []
numbers_from first (suc n) = first ∷ numbers_from (first + 1) n

-- This is the least number that is greater than the lines of all these rules.
abbrev pub lines_end : List (ℕ × Rule) → ℕ
lines_end [] = 0
lines_end (r ∷ rules) = max (r.0 + 1) (lines_end rules)

-- These are the lines up to that of the last allow rule, by their numbers. What no rule grants comes last.
abbrev pub granting_lines : Policy → List (Option ℕ)
granting_lines policy = map Some (numbers_from 0 (lines_end (rules_in Allow policy.statements))) ++ None ∷ []

-- These are the lines for the rules of the first policy that are the first to grant an access which the other one
-- doesn't allow, in the order of their file. The accesses that no rule grants come last.
unfoldable pub rule_changes : ℕ → List ℕ → List ℕ → Policy → Policy → List ℕ
rule_changes sign path text one other = flat_map (change_line sign path text one other) (granting_lines one)

-- These are the lines for what differs between two policies, with rules in place of accesses. Their sources have these
-- paths and texts.
unfoldable pub rule_differences : List ℕ → List ℕ → List ℕ → List ℕ → Policy → Policy → List ℕ
rule_differences path text new_path new_text old new =
    rule_changes 45 path text old new ++ rule_changes 43 new_path new_text new old ++ rest old new
