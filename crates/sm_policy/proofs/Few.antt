-- A policy source has no more statements than bytes.
use Rattle.std.proofs.Common.{◌≡◌, ℕ, zero, suc, ◌+◌, ◌≤◌, List, [], ◌∷◌, length, length-append, Option, Ok, arith}
use Rattle.std.proofs.lemmas.Bool.Decides.{nat_tests}
use Rattle.sm_values.specs.Reading.{◌>>=◌}
use Rattle.sm_values.specs.declared.limits.TheConstants.{MOST_TEXT_BYTES}
use Rattle.sm_values.proofs.Readers.{went_well}
use Rattle.sm_ruletext.specs.declared.statement.What.{What}
use Rattle.sm_ruletext.specs.declared.statement.Statement.{Statement}
use Rattle.sm_ruletext.specs.declared.token.TokenKind.{TokenKind}
use Rattle.sm_ruletext.specs.declared.token.TokenKind.TheVariants.{Word}
use Rattle.sm_ruletext.specs.Lexing.{Tokens, tokens}
use Rattle.sm_ruletext.specs.Words.{keyword_of}
use Rattle.sm_ruletext.specs.Statements.{what_at, with_statement, statement_from, statements_within, statements_of}
use Rattle.sm_ruletext.specs.Statements.{read}
use Rattle.sm_ruletext.proofs.Cuts.{length-tokens}

one_more : (line : ℕ) (sts more : List Statement) (w : Option What) → with_statement line sts w ≡ Ok more
    → length more ≤ length sts + 1
unfolding with_statement
one_more line sts more w h = grind (arith, length-append)

one_statement : (line : ℕ) (k : TokenKind) (sts : List Statement) (ts : Tokens) (next : List Statement × Tokens)
    → statement_from line k sts ts ≡ Ok next → length next.0 ≤ length sts + 1
unfolding statement_from
one_statement line (Word w) sts ts next h =
    let what = went_well (what_at line (keyword_of w) ts) (λ x. with_statement line sts x.0 >>= λ more. Ok (more, x.1))
    next h in
    let more = went_well (with_statement line sts what.0.0) (λ more. Ok (more, what.0.1)) next what.2 in
    grind (arith, one_more line sts more.0 what.0.0 more.1)
one_statement line k sts ts next h = grind arith

few_within : (most : ℕ) (sts all : List Statement) (ts : Tokens) → statements_within most sts ts ≡ Ok all
    → length all ≤ length sts + most
unfolding statements_within
few_within most sts all [] h = grind arith
few_within zero sts all (t ∷ ts) h = grind arith
few_within (suc most) sts all ((line, k) ∷ ts) h =
    let next = went_well (statement_from line k sts ts) (λ n. statements_within most n.0 n.1) all h in
    omega (arith, one_statement line k sts ts next.0 next.1, few_within most next.0.0 all next.0.1 next.2)

pub few : (text : List ℕ) (all : List Statement) → read text ≡ Ok all → length all ≤ MOST_TEXT_BYTES
unfolding read statements_of
few text all h =
    grind (arith, nat_tests, few_within (length (tokens 0 1 text)) [] all (tokens 0 1 text), length-tokens 0 1 text)
