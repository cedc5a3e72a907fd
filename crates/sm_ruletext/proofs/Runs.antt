-- The loop over statements.
use Rattle.std.proofs.Common.{◌≡◌, ℕ, zero, suc, ◌≤◌, List, [], ◌∷◌, length, Ok, Err, refl, sym, ◌∙◌, arith}
use Rattle.sm_ruletext.specs.declared.token.TokenKind.{TokenKind}
use Rattle.sm_ruletext.specs.declared.fault.RuleTextFault.{RuleTextFault}
use Rattle.sm_ruletext.specs.declared.statement.Statement.{Statement}
use Rattle.sm_ruletext.specs.Lexing.{Tokens}
use Rattle.sm_values.specs.Reading.{◌>>=◌, Fails}
use Rattle.sm_values.proofs.Readers.{fails_along}
use Rattle.sm_ruletext.specs.Grammar.{Step, is_memory}
use Rattle.sm_ruletext.specs.Statements.{statement_from, statements_within, statements_of}

-- The statements so far lead to the whole.
pub record LeadsTo (total : Step (List Statement)) (sts : List Statement) (ts : Tokens) : Type 0 where
  pub most : ℕ
  pub enough : length ts ≤ most
  pub same : statements_within most sts ts ≡ total

pub leads_first : (ts : Tokens) → LeadsTo (statements_of ts) [] ts
unfolding statements_of
leads_first ts = record { most = length ts; enough = omega arith; same = refl }

one_more : (most line : ℕ) (k : TokenKind) (sts : List Statement) (ts : Tokens)
    → statements_within (suc most) sts ((line, k) ∷ ts)
    ≡ (statement_from line k sts ts >>= λ next. statements_within most next.0 next.1)
unfolding statements_within
one_more most line k sts ts = refl

pub leads_on : (total : Step (List Statement)) (sts more : List Statement) (line : ℕ) (k : TokenKind)
    (before ts us : Tokens)
    → before ≡ (line, k) ∷ ts → LeadsTo total sts before
    → statement_from line k sts ts ≡ Ok (more, us) → length us ≤ length ts → LeadsTo total more us
leads_on total sts more line k before ts us front so_far step fewer =
    go so_far.most (rw front at so_far.enough) (rw front at so_far.same) where
      go : (most : ℕ) → length ((line, k) ∷ ts) ≤ most → statements_within most sts ((line, k) ∷ ts) ≡ total
          → LeadsTo total more us
      go zero enough same = absurd (omega arith)
      go (suc most) enough same =
          let e : (statement_from line k sts ts >>= λ next. statements_within most next.0 next.1)
          ≡ statements_within most more us = rw step refl in
          record {
            most = most;
            enough = omega (arith, enough, fewer);
            same = sym e
                ∙ (sym (one_more most line k sts ts) ∙ same);
          }

pub leads_to_fault : (e : RuleTextFault) (total : Step (List Statement)) (sts : List Statement) (line : ℕ)
    (k : TokenKind)
    (before ts : Tokens) → before ≡ (line, k) ∷ ts → LeadsTo total sts before
    → Fails is_memory e (statement_from line k sts ts) → Fails is_memory e total
leads_to_fault e total sts line k before ts front so_far step =
    go so_far.most (rw front at so_far.enough) (rw front at so_far.same) where
      fails : (most : ℕ) → statements_within (suc most) sts ((line, k) ∷ ts) ≡ total
          → statement_from line k sts ts ≡ Err e → total ≡ Err e
      fails most same h =
          let u : (statement_from line k sts ts >>= λ next. statements_within most next.0 next.1) ≡ Err e = rw h refl in
          sym same ∙ (one_more most line k sts ts ∙ u)

      go : (most : ℕ) → length ((line, k) ∷ ts) ≤ most → statements_within most sts ((line, k) ∷ ts) ≡ total
          → Fails is_memory e total
      go zero enough same = absurd (omega arith)
      go (suc most) enough same = fails_along is_memory e (statement_from line k sts ts) total (fails most same) step

pub leads_to_end : (total : Step (List Statement)) (sts : List Statement) (ts : Tokens) → ts ≡ [] → LeadsTo total sts ts
    → total ≡ Ok sts
unfolding statements_within
leads_to_end total sts ts none so_far = sym (rw none at so_far.same)
