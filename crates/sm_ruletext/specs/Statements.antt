-- The statements of a policy source.
use Rattle.std.specs.Prelude.{ℕ, zero, suc, Bool, true, false, ◌&&◌, nat_le, nat_lt, count_by, if◌then◌else◌, List}
use Rattle.std.specs.Prelude.{[], ◌∷◌, ◌++◌, length, Option, Some, None, Ok, Err}
use Rattle.sm_values.specs.Reading.{◌>>=◌}
use Rattle.sm_values.specs.declared.limits.TheConstants.{MOST_TEXT_BYTES}
use Rattle.sm_ruletext.specs.declared.limits.TheConstants.{MOST_RULES}
use Rattle.sm_ruletext.specs.declared.token.TokenKind.{TokenKind, TheVariants.Word, TheVariants.Semicolon}
use Rattle.sm_ruletext.specs.declared.fault.RuleTextFault.TheVariants.{TooLarge, Syntax, Unsupported, TooMany}
use Rattle.sm_ruletext.specs.declared.statement.What.{What}
use Rattle.sm_ruletext.specs.declared.statement.What.TheVariants as what
use Rattle.sm_ruletext.specs.declared.statement.Statement.{Statement}
use Rattle.sm_ruletext.specs.declared.keyword.Keyword.{Keyword}
use Rattle.sm_ruletext.specs.declared.keyword.Keyword.TheVariants as word
use Rattle.sm_ruletext.specs.Kept.{is_kept}
use Rattle.sm_ruletext.specs.Lexing.{Tokens, tokens}
use Rattle.sm_ruletext.specs.Words.{keyword_of}
use Rattle.sm_ruletext.specs.Grammar.{Step, Read, semicolon_at, name_at, names_at, rule_at}

-- This skips tokens up to the semicolon.
unfoldable pub skipped_at : ℕ → Tokens → Read (Unit {0})
skipped_at line [] = Err (Syntax line)
skipped_at line ((l, Semicolon) ∷ ts) = Ok (tt, ts)
skipped_at line ((l, k) ∷ ts) = skipped_at line ts

-- This reads what follows the first word of a statement; a skipped statement has no content.
unfoldable pub what_at : ℕ → Keyword → Tokens → Read (Option What)
what_at line word.Attribute ts = do
  name ← name_at line ts
  end ← semicolon_at line name.1
  Ok (Some (what.Attribute name.0), end.1)
what_at line word.Types ts = do
  name ← name_at line ts
  names ← names_at line [] name.1
  Ok (Some (what.Declared name.0 names.0), names.1)
what_at line word.Typeattribute ts = do
  name ← name_at line ts
  first ← name_at line name.1
  names ← names_at line (first.0 ∷ []) first.1
  Ok (Some (what.Member name.0 names.0), names.1)
what_at line (word.Rule kind) ts = do
  rule ← rule_at line ts
  Ok (if is_kept rule.0 then Some (what.Rule kind rule.0) else None, rule.1)
what_at line word.Permissive ts = do
  name ← name_at line ts
  end ← semicolon_at line name.1
  Ok (Some (what.Permissive name.0), end.1)
what_at line word.Skipped ts = do
  end ← skipped_at line ts
  Ok (None, end.1)
what_at line word.Unknown ts = Err (Unsupported line)

-- A statement's content is a rule.
abbrev pub is_rule : What → Bool
is_rule (what.Attribute n) = false
is_rule (what.Declared n ns) = false
is_rule (what.Member n ns) = false
is_rule (what.Rule kind r) = true
is_rule (what.Permissive n) = false

-- This is the number of rules.
abbrev pub rule_count : List Statement → ℕ
rule_count sts = count_by (λ s. is_rule s.what) sts

-- A statement is appended, unless it is a rule too many.
unfoldable pub with_statement : ℕ → List Statement → Option What → Step (List Statement)
with_statement line sts None = Ok sts
with_statement line sts (Some w) =
    if is_rule w && nat_le MOST_RULES (rule_count sts) then Err TooMany
    else Ok (sts ++ record { line = line; what = w } ∷ [])

-- This reads one statement, whose first token is k.
unfoldable pub statement_from : ℕ → TokenKind → List Statement → Tokens → Read (List Statement)
statement_from line Semicolon sts ts = Ok (sts, ts)
statement_from line (Word w) sts ts = do
  what ← what_at line (keyword_of w) ts
  more ← with_statement line sts what.0
  Ok (more, what.1)
statement_from line k sts ts = Err (Syntax line)

-- This reads the statements after those of `sts`, if there are at most `most`.
unfoldable pub statements_within : ℕ → List Statement → Tokens → Step (List Statement)
statements_within most sts [] = Ok sts
statements_within zero sts (t ∷ ts) = Ok sts
statements_within (suc most) sts ((line, k) ∷ ts) = do
  next ← statement_from line k sts ts
  statements_within most next.0 next.1

-- These are the statements of tokens. Each statement takes at least one token, so there are no more.
unfoldable pub statements_of : Tokens → Step (List Statement)
statements_of ts = statements_within (length ts) [] ts

-- These are the statements of a policy source, or the first fault.
unfoldable pub read : List ℕ → Step (List Statement)
read text = if nat_lt MOST_TEXT_BYTES (length text) then Err TooLarge else statements_of (tokens 0 1 text)
