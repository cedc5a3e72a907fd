-- The same of statements and of a whole text.
use Rattle.std.proofs.Common.{◌≡◌, ℕ, zero, suc, ◌≤◌, IfOk, ltb, Bool, true, false, cond, List, [], ◌∷◌, ◌++◌, length}
use Rattle.std.proofs.Common.{Option, Some, None, Ok, Err, refl, sym, ap, subst, ◌∙◌, append_assoc, arith}
use Rattle.std.proofs.lemmas.List.{append-nil, length-append}
use Rattle.std.proofs.lemmas.Bool.{le-ltb}
use Rattle.sm_ruletext.specs.declared.token.TokenKind.{TokenKind}
use Rattle.sm_ruletext.specs.declared.token.TokenKind.TheVariants.{Word, Semicolon, Comma, Colon, Open, Close, Star}
use Rattle.sm_ruletext.specs.declared.token.TokenKind.TheVariants.{Tilde}
use Rattle.sm_ruletext.specs.declared.token.TokenKind.TheVariants.{Dash, Other}
use Rattle.sm_ruletext.specs.declared.fault.RuleTextFault.TheVariants.{Syntax, TooLarge}
use Rattle.sm_ruletext.specs.Items.{Set}
use Rattle.sm_ruletext.specs.declared.rule.Rule.{Rule}
use Rattle.sm_ruletext.specs.declared.statement.RuleKind.{RuleKind}
use Rattle.sm_ruletext.specs.declared.statement.What.{What}
use Rattle.sm_ruletext.specs.declared.statement.What.TheVariants as what
use Rattle.sm_ruletext.specs.declared.statement.Statement.{Statement}
use Rattle.sm_ruletext.specs.declared.keyword.Keyword.{Keyword}
use Rattle.sm_ruletext.specs.declared.keyword.Keyword.TheVariants as word
use Rattle.sm_ruletext.specs.Lexing.{Tokens, tokens}
use Rattle.sm_ruletext.specs.Words.{is_self, keyword_of}
use Rattle.sm_values.specs.Reading.{◌>>=◌, Gives}
use Rattle.sm_values.specs.declared.limits.TheConstants.{MOST_TEXT_BYTES}
use Rattle.sm_values.proofs.Readers.{went_well}
use Rattle.sm_ruletext.specs.Grammar.{Step, Read, is_memory, name_at, names_at, semicolon_at, colon_at, set_at, rule_at}
use Rattle.sm_ruletext.specs.Kept.{is_kept}
use Rattle.sm_ruletext.specs.Statements.{skipped_at, what_at, with_statement, statement_from, statements_within}
use Rattle.sm_ruletext.specs.Statements.{statements_of, read}
use Rattle.sm_ruletext.specs.Spelling.{SpellsRule, SpellsNames, HasNoSemicolon, SpellsStatement, SpellsText}
use Rattle.sm_ruletext.proofs.Turns.{ok_parts, name_taken}
use Rattle.sm_ruletext.proofs.Spelled.{dash_cases, set_taken, rule_again}

-- ---- what is spelled so is read

name_again : (line l : ℕ) (w : List ℕ) (ts : Tokens) → is_self w ≡ false → name_at line ((l, Word w) ∷ ts) ≡ Ok (w, ts)
unfolding name_at
name_again line l w ts h = rw h refl

names_again : (line l : ℕ) (before names : List (List ℕ)) (ts us : Tokens) → SpellsNames ts names
    → names_at line before (ts ++ (l, Semicolon) ∷ us) ≡ Ok (before ++ names, us)
unfolding names_at
names_again line l before _ _ us SpellsNames.none = ap (λ (x : List (List ℕ)). Ok (x, us)) (sym (append-nil before))
names_again line l before _ _ us (SpellsNames.more n m w ts names h s) =
    rw h (names_again line l (before ++ w ∷ []) names ts us s
    ∙ ap (λ (x : List (List ℕ)). Ok (x, us)) (append_assoc before (w ∷ []) names))

skipped_again : (line l : ℕ) (ts us : Tokens) → HasNoSemicolon ts
    → skipped_at line (ts ++ (l, Semicolon) ∷ us) ≡ Ok (tt, us)
unfolding skipped_at
skipped_again line l [] us h = refl
skipped_again line l ((n, Word w) ∷ ts) us h = skipped_again line l ts us h
skipped_again line l ((n, Semicolon) ∷ ts) us h = absurd h
skipped_again line l ((n, Comma) ∷ ts) us h = skipped_again line l ts us h
skipped_again line l ((n, Colon) ∷ ts) us h = skipped_again line l ts us h
skipped_again line l ((n, Open) ∷ ts) us h = skipped_again line l ts us h
skipped_again line l ((n, Close) ∷ ts) us h = skipped_again line l ts us h
skipped_again line l ((n, Star) ∷ ts) us h = skipped_again line l ts us h
skipped_again line l ((n, Tilde) ∷ ts) us h = skipped_again line l ts us h
skipped_again line l ((n, Dash) ∷ ts) us h = skipped_again line l ts us h
skipped_again line l ((n, Other) ∷ ts) us h = skipped_again line l ts us h

pub what_again : (line l : ℕ) (k : Keyword) (ts us : Tokens) (w : Option What) → SpellsStatement line k ts w
    → what_at line k (ts ++ (l, Semicolon) ∷ us) ≡ Ok (w, us)
unfolding what_at semicolon_at
what_again line l _ _ us _ (SpellsStatement.attribute n w h) = rw (name_again line n w ((l, Semicolon) ∷ us) h) refl
what_again line l _ _ us _ (SpellsStatement.types n w ts names h s) =
    rw (name_again line n w (ts ++ (l, Semicolon) ∷ us) h, names_again line l [] names ts us s) refl
what_again line l _ _ us _ (SpellsStatement.member n m w a ts names h g s) =
    rw (
      name_again line n w ((m, Word a) ∷ (ts ++ (l, Semicolon) ∷ us)) h,
      name_again line m a (ts ++ (l, Semicolon) ∷ us) g,
      names_again line l (a ∷ []) names ts us s,
    ) refl
what_again line l _ _ us _ (SpellsStatement.rule kind ts r s) = rw (rule_again line ts us l r s) refl
what_again line l _ _ us _ (SpellsStatement.permissive n w h) = rw (name_again line n w ((l, Semicolon) ∷ us) h) refl
what_again line l _ _ us _ (SpellsStatement.skipped ts h) = rw (skipped_again line l ts us h) refl

text_again : (sts all : List Statement) (ts : Tokens) → SpellsText sts ts all → (most : ℕ) → length ts ≤ most
    → statements_within most sts ts ≡ Ok all
unfolding statements_within statement_from
text_again _ _ _ (SpellsText.end sts) most enough = refl
text_again _ _ _ (SpellsText.empty l ts sts all s) zero enough = absurd (omega arith)
text_again _ _ _ (SpellsText.empty l ts sts all s) (suc most) enough = text_again sts all ts s most (omega arith)
text_again _ _ _ (SpellsText.stated line l w vs ts what sts more all s h t) zero enough = absurd (omega arith)
text_again _ _ _ (SpellsText.stated line l w vs ts what sts more all s h t) (suc most) enough =
    rw (what_again line l (keyword_of w) vs ts what s, h)
    (text_again more all ts t most (omega (arith, length-append vs ((l, Semicolon) ∷ ts))))

pub spelled_is_read : (ts : Tokens) (sts : List Statement) → SpellsText [] ts sts → statements_of ts ≡ Ok sts
unfolding statements_of
spelled_is_read ts sts s = text_again [] sts ts s (length ts) (omega arith)

-- ---- what is read is spelled so

abbrev named : What → Tokens → Read (Option What)
named w ts = Ok (Some w, ts)

abbrev nothing : Tokens → Read (Option What)
nothing ts = Ok (None, ts)

abbrev rule_made : RuleKind → Rule × Tokens → Read (Option What)
rule_made kind r = Ok (cond (is_kept r.0) (Some (what.Rule kind r.0)) None, r.1)

abbrev pub placed : List Statement → Tokens → Read (List Statement)
placed sts ts = Ok (sts, ts)

abbrev pub added : ℕ → List Statement → Option What × Tokens → Read (List Statement)
added line sts what = with_statement line sts what.0 >>= λ more. placed more what.1

-- The tokens before the semicolon, and their spelling.
pub record Ends (Spelled : Tokens → Type 0) (ts us : Tokens) : Type 0 where
  pub vs : Tokens
  pub l : ℕ
  pub parts : ts ≡ vs ++ (l, Semicolon) ∷ us
  pub spelled : Spelled vs

colon_taken : (line : ℕ) (ts us : Tokens) → colon_at line ts ≡ Ok (tt, us) → (l : ℕ) × (ts ≡ (l, Colon) ∷ us)
unfolding colon_at
colon_taken line [] us e = absurd cc
colon_taken line ((l, Colon) ∷ ts) us e = let p = ok_parts {A = Unit {0}} tt tt ts us e in
    (l, ap (λ (x : Tokens). (l, Colon) ∷ x) p.1)
colon_taken line ((l, Word w) ∷ ts) us e = absurd cc
colon_taken line ((l, Semicolon) ∷ ts) us e = absurd cc
colon_taken line ((l, Comma) ∷ ts) us e = absurd cc
colon_taken line ((l, Open) ∷ ts) us e = absurd cc
colon_taken line ((l, Close) ∷ ts) us e = absurd cc
colon_taken line ((l, Star) ∷ ts) us e = absurd cc
colon_taken line ((l, Tilde) ∷ ts) us e = absurd cc
colon_taken line ((l, Dash) ∷ ts) us e = absurd cc
colon_taken line ((l, Other) ∷ ts) us e = absurd cc

semicolon_taken : (line : ℕ) (ts us : Tokens) → semicolon_at line ts ≡ Ok (tt, us)
    → (l : ℕ) × (ts ≡ (l, Semicolon) ∷ us)
unfolding semicolon_at
semicolon_taken line [] us e = absurd cc
semicolon_taken line ((l, Semicolon) ∷ ts) us e = let p = ok_parts {A = Unit {0}} tt tt ts us e in
    (l, ap (λ (x : Tokens). (l, Semicolon) ∷ x) p.1)
semicolon_taken line ((l, Word w) ∷ ts) us e = absurd cc
semicolon_taken line ((l, Colon) ∷ ts) us e = absurd cc
semicolon_taken line ((l, Comma) ∷ ts) us e = absurd cc
semicolon_taken line ((l, Open) ∷ ts) us e = absurd cc
semicolon_taken line ((l, Close) ∷ ts) us e = absurd cc
semicolon_taken line ((l, Star) ∷ ts) us e = absurd cc
semicolon_taken line ((l, Tilde) ∷ ts) us e = absurd cc
semicolon_taken line ((l, Dash) ∷ ts) us e = absurd cc
semicolon_taken line ((l, Other) ∷ ts) us e = absurd cc

regroup : (a b c d u : Tokens) (n : ℕ × TokenKind)
    → (a ++ (b ++ (n ∷ (c ++ d)))) ++ u ≡ a ++ (b ++ (n ∷ (c ++ (d ++ u))))
regroup a b c d u n = simp append_assoc

joined : (ts a b n c d us va vb vc vd : Tokens) (colon semi : ℕ × TokenKind) → ts ≡ va ++ a → a ≡ vb ++ b
    → b ≡ colon ∷ n
    → n ≡ vc ++ c → c ≡ vd ++ d → d ≡ semi ∷ us
    → ts ≡ (va ++ (vb ++ (colon ∷ (vc ++ vd)))) ++ semi ∷ us
joined ts a b n c d us va vb vc vd colon semi ea eb en ec ed es =
    rw (ea, eb, en, ec, ed, es) (sym (regroup va vb vc vd (semi ∷ us) colon))

rule_taken : (line : ℕ) (ts us : Tokens) (r : Rule) → rule_at line ts ≡ Ok (r, us)
    → Ends (λ vs. SpellsRule line vs r) ts us
unfolding rule_at
rule_taken line ts us r e =
    let finish : Set × Bool → Set × Bool → Set × Bool → (Set × Bool) × Tokens → Read Rule =
    λ source target class perm. semicolon_at line perm.1
    >>= λ end. Ok (
      record {
        source = source.0;
        target = target.0;
        class = class.0;
        perm = perm.0.0;
        to_self = target.1;
      },
      end.1,
    ) in
    let a = went_well (set_at line false ts)
    (λ source. set_at line true source.1 >>= λ target. colon_at line target.1 >>= λ colon. set_at line false colon.1
    >>= λ class. set_at line false class.1 >>= finish source.0 target.0 class.0) (r, us) e in
    let b = went_well (set_at line true a.0.1)
    (λ target. colon_at line target.1 >>= λ colon. set_at line false colon.1 >>= λ class. set_at line false class.1
    >>= finish a.0.0 target.0 class.0) (r, us) a.2 in
    let n = went_well (colon_at line b.0.1)
    (λ colon. set_at line false colon.1 >>= λ class. set_at line false class.1 >>= finish a.0.0 b.0.0 class.0)
    (r, us) b.2 in
    let c = went_well (set_at line false n.0.1) (λ class. set_at line false class.1 >>= finish a.0.0 b.0.0 class.0)
    (r, us) n.2 in
    let d = went_well (set_at line false c.0.1) (finish a.0.0 b.0.0 c.0.0) (r, us) c.2 in
    let made : Rule = record {
      source = a.0.0.0;
      target = b.0.0.0;
      class = c.0.0.0;
      perm = d.0.0.0;
      to_self = b.0.0.1;
    } in
    let f = went_well (semicolon_at line d.0.1) (λ end. Ok (made, end.1)) (r, us) d.2 in
    let p = ok_parts made r f.0.1 us f.2 in
    let ta = set_taken line false ts a.0.1 a.0.0 a.1 in
    let tb = set_taken line true a.0.1 b.0.1 b.0.0 b.1 in
    let tn = colon_taken line b.0.1 n.0.1 n.1 in
    let tc = set_taken line false n.0.1 c.0.1 c.0.0 c.1 in
    let td = set_taken line false c.0.1 d.0.1 d.0.0 d.1 in
    let tf = semicolon_taken line d.0.1 f.0.1 f.1 in
    let tail : d.0.1 ≡ (tf.0, Semicolon) ∷ us = tf.1 ∙ ap (λ (x : Tokens). (tf.0, Semicolon) ∷ x) p.1 in
    record {
      vs = ta.0 ++ (tb.0 ++ ((tn.0, Colon) ∷ (tc.0 ++ td.0)));
      l = tf.0;
      parts = joined ts a.0.1 b.0.1 n.0.1 c.0.1 d.0.1 us ta.0 tb.0 tc.0 td.0 (tn.0, Colon) (tf.0, Semicolon) ta.1 tb.1
          tn.1 tc.1 td.1 tail;
      spelled = subst (λ (x : Rule). SpellsRule line (ta.0 ++ (tb.0 ++ ((tn.0, Colon) ∷ (tc.0 ++ td.0)))) x) p.0
          (SpellsRule.rule tn.0 ta.0 tb.0 tc.0 td.0 a.0.0 b.0.0 c.0.0 d.0.0 ta.2 tb.2 tc.2 td.2);
    }

names_taken : (line : ℕ) (before names : List (List ℕ)) (ts us : Tokens) → names_at line before ts ≡ Ok (names, us)
    → (more : List (List ℕ)) × (names ≡ before ++ more) × Ends (λ vs. SpellsNames vs more) ts us
unfolding names_at
names_taken line before names [] us e = absurd cc
names_taken line before names ((l, Semicolon) ∷ ts) us e =
    let p = ok_parts before names ts us e in (
      [],
      sym p.0 ∙ sym (append-nil before),
      record { vs = []; l = l; parts = ap (λ (x : Tokens). (l, Semicolon) ∷ x) p.1; spelled = SpellsNames.none },
    )
names_taken line before names ((l, Comma) ∷ []) us e = absurd cc
names_taken line before names ((l, Comma) ∷ (m, Word w) ∷ ts) us e =
    let b = dash_cases (is_self w) (Syntax line) (Err (Syntax line)) (names_at line (before ++ w ∷ []) ts) (names, us)
    e in
    let r = names_taken line (before ++ w ∷ []) names ts us b.1 in (
      w ∷ r.0,
      r.1 ∙ append_assoc before (w ∷ []) r.0,
      record {
        vs = (l, Comma) ∷ (m, Word w) ∷ r.2.vs;
        l = r.2.l;
        parts = ap (λ (x : Tokens). (l, Comma) ∷ (m, Word w) ∷ x) r.2.parts;
        spelled = SpellsNames.more l m w r.2.vs r.0 b.0 r.2.spelled;
      },
    )
names_taken line before names ((l, Comma) ∷ (m, Semicolon) ∷ ts) us e = absurd cc
names_taken line before names ((l, Comma) ∷ (m, Comma) ∷ ts) us e = absurd cc
names_taken line before names ((l, Comma) ∷ (m, Colon) ∷ ts) us e = absurd cc
names_taken line before names ((l, Comma) ∷ (m, Open) ∷ ts) us e = absurd cc
names_taken line before names ((l, Comma) ∷ (m, Close) ∷ ts) us e = absurd cc
names_taken line before names ((l, Comma) ∷ (m, Star) ∷ ts) us e = absurd cc
names_taken line before names ((l, Comma) ∷ (m, Tilde) ∷ ts) us e = absurd cc
names_taken line before names ((l, Comma) ∷ (m, Dash) ∷ ts) us e = absurd cc
names_taken line before names ((l, Comma) ∷ (m, Other) ∷ ts) us e = absurd cc
names_taken line before names ((l, Word w) ∷ ts) us e = absurd cc
names_taken line before names ((l, Colon) ∷ ts) us e = absurd cc
names_taken line before names ((l, Open) ∷ ts) us e = absurd cc
names_taken line before names ((l, Close) ∷ ts) us e = absurd cc
names_taken line before names ((l, Star) ∷ ts) us e = absurd cc
names_taken line before names ((l, Tilde) ∷ ts) us e = absurd cc
names_taken line before names ((l, Dash) ∷ ts) us e = absurd cc
names_taken line before names ((l, Other) ∷ ts) us e = absurd cc

skipped_taken : (line : ℕ) (ts us : Tokens) → skipped_at line ts ≡ Ok (tt, us) → Ends HasNoSemicolon ts us
unfolding skipped_at
skipped_taken line [] us e = absurd cc
skipped_taken line ((l, Semicolon) ∷ ts) us e = let p = ok_parts {A = Unit {0}} tt tt ts us e in
    record { vs = []; l = l; parts = ap (λ (x : Tokens). (l, Semicolon) ∷ x) p.1; spelled = tt }
skipped_taken line ((l, Word w) ∷ ts) us e = let r = skipped_taken line ts us e in
    record {
      vs = (l, Word w) ∷ r.vs;
      l = r.l;
      parts = ap (λ (x : Tokens). (l, Word w) ∷ x) r.parts;
      spelled = r.spelled;
    }
skipped_taken line ((l, Comma) ∷ ts) us e = let r = skipped_taken line ts us e in
    record { vs = (l, Comma) ∷ r.vs; l = r.l; parts = ap (λ (x : Tokens). (l, Comma) ∷ x) r.parts; spelled = r.spelled }
skipped_taken line ((l, Colon) ∷ ts) us e = let r = skipped_taken line ts us e in
    record { vs = (l, Colon) ∷ r.vs; l = r.l; parts = ap (λ (x : Tokens). (l, Colon) ∷ x) r.parts; spelled = r.spelled }
skipped_taken line ((l, Open) ∷ ts) us e = let r = skipped_taken line ts us e in
    record { vs = (l, Open) ∷ r.vs; l = r.l; parts = ap (λ (x : Tokens). (l, Open) ∷ x) r.parts; spelled = r.spelled }
skipped_taken line ((l, Close) ∷ ts) us e = let r = skipped_taken line ts us e in
    record { vs = (l, Close) ∷ r.vs; l = r.l; parts = ap (λ (x : Tokens). (l, Close) ∷ x) r.parts; spelled = r.spelled }
skipped_taken line ((l, Star) ∷ ts) us e = let r = skipped_taken line ts us e in
    record { vs = (l, Star) ∷ r.vs; l = r.l; parts = ap (λ (x : Tokens). (l, Star) ∷ x) r.parts; spelled = r.spelled }
skipped_taken line ((l, Tilde) ∷ ts) us e = let r = skipped_taken line ts us e in
    record { vs = (l, Tilde) ∷ r.vs; l = r.l; parts = ap (λ (x : Tokens). (l, Tilde) ∷ x) r.parts; spelled = r.spelled }
skipped_taken line ((l, Dash) ∷ ts) us e = let r = skipped_taken line ts us e in
    record { vs = (l, Dash) ∷ r.vs; l = r.l; parts = ap (λ (x : Tokens). (l, Dash) ∷ x) r.parts; spelled = r.spelled }
skipped_taken line ((l, Other) ∷ ts) us e = let r = skipped_taken line ts us e in
    record { vs = (l, Other) ∷ r.vs; l = r.l; parts = ap (λ (x : Tokens). (l, Other) ∷ x) r.parts; spelled = r.spelled }

ends_as : (line : ℕ) (k : Keyword) (ts us vs : Tokens) (w x : Option What)
    → Ends (λ bs. SpellsStatement line k bs w) ts us → w ≡ x → us ≡ vs → Ends (λ bs. SpellsStatement line k bs x) ts vs
ends_as line k ts us vs w x r e f = rw (← e, ← f) r

pub what_taken : (line : ℕ) (k : Keyword) (ts us : Tokens) (w : Option What) → what_at line k ts ≡ Ok (w, us)
    → Ends (λ vs. SpellsStatement line k vs w) ts us
unfolding what_at
what_taken line word.Attribute ts us w e =
    let a = went_well (name_at line ts)
    (λ name. semicolon_at line name.1 >>= λ end. named (what.Attribute name.0) end.1) (w, us) e in
    let b = went_well (semicolon_at line a.0.1) (λ end. named (what.Attribute a.0.0) end.1) (w, us) a.2 in
    let p = ok_parts (Some (what.Attribute a.0.0)) w b.0.1 us b.2 in
    let ta = name_taken line ts a.0.1 a.0.0 a.1 in
    let tb = semicolon_taken line a.0.1 b.0.1 b.1 in
    ends_as line word.Attribute ts b.0.1 us (Some (what.Attribute a.0.0)) w (record {
      vs = (ta.0, Word a.0.0) ∷ [];
      l = tb.0;
      parts = ta.1 ∙ ap (λ (x : Tokens). (ta.0, Word a.0.0) ∷ x) tb.1;
      spelled = SpellsStatement.attribute ta.0 a.0.0 ta.2;
    }) p.0 p.1
what_taken line word.Types ts us w e =
    let a = went_well (name_at line ts)
    (λ name. names_at line [] name.1 >>= λ names. named (what.Declared name.0 names.0) names.1) (w, us) e in
    let b = went_well (names_at line [] a.0.1) (λ names. named (what.Declared a.0.0 names.0) names.1) (w, us) a.2 in
    let p = ok_parts (Some (what.Declared a.0.0 b.0.0)) w b.0.1 us b.2 in
    let ta = name_taken line ts a.0.1 a.0.0 a.1 in
    let tb = names_taken line [] b.0.0 a.0.1 b.0.1 b.1 in
    ends_as line word.Types ts b.0.1 us (Some (what.Declared a.0.0 tb.0)) w (record {
      vs = (ta.0, Word a.0.0) ∷ tb.2.vs;
      l = tb.2.l;
      parts = ta.1 ∙ ap (λ (x : Tokens). (ta.0, Word a.0.0) ∷ x) tb.2.parts;
      spelled = SpellsStatement.types ta.0 a.0.0 tb.2.vs tb.0 ta.2 tb.2.spelled;
    }) (ap (λ (x : List (List ℕ)). Some (what.Declared a.0.0 x)) (sym tb.1) ∙ p.0) p.1
what_taken line word.Typeattribute ts us w e =
    let a = went_well (name_at line ts)
    (λ name. name_at line name.1 >>= λ first. names_at line (first.0 ∷ []) first.1
    >>= λ names. named (what.Member name.0 names.0) names.1) (w, us) e in
    let f = went_well (name_at line a.0.1)
    (λ first. names_at line (first.0 ∷ []) first.1 >>= λ names. named (what.Member a.0.0 names.0) names.1) (w, us)
    a.2 in
    let b = went_well (names_at line (f.0.0 ∷ []) f.0.1) (λ names. named (what.Member a.0.0 names.0) names.1) (w, us)
    f.2 in
    let p = ok_parts (Some (what.Member a.0.0 b.0.0)) w b.0.1 us b.2 in
    let ta = name_taken line ts a.0.1 a.0.0 a.1 in
    let tf = name_taken line a.0.1 f.0.1 f.0.0 f.1 in
    let tb = names_taken line (f.0.0 ∷ []) b.0.0 f.0.1 b.0.1 b.1 in
    ends_as line word.Typeattribute ts b.0.1 us (Some (what.Member a.0.0 (f.0.0 ∷ tb.0))) w (record {
      vs = (ta.0, Word a.0.0) ∷ (tf.0, Word f.0.0) ∷ tb.2.vs;
      l = tb.2.l;
      parts = ta.1 ∙ ap (λ (x : Tokens). (ta.0, Word a.0.0) ∷ x)
          (tf.1 ∙ ap (λ (x : Tokens). (tf.0, Word f.0.0) ∷ x) tb.2.parts);
      spelled = SpellsStatement.member ta.0 tf.0 a.0.0 f.0.0 tb.2.vs tb.0 ta.2 tf.2 tb.2.spelled;
    }) (ap (λ (x : List (List ℕ)). Some (what.Member a.0.0 x)) (sym tb.1) ∙ p.0) p.1
what_taken line (word.Rule kind) ts us w e =
    let a = went_well (rule_at line ts) (rule_made kind) (w, us) e in
    let made : Option What = cond (is_kept a.0.0) (Some (what.Rule kind a.0.0)) None in
    let p = ok_parts made w a.0.1 us a.2 in
    let r = rule_taken line ts a.0.1 a.0.0 a.1 in
    ends_as line (word.Rule kind) ts a.0.1 us made w
    (record { vs = r.vs; l = r.l; parts = r.parts; spelled = SpellsStatement.rule kind r.vs a.0.0 r.spelled }) p.0 p.1
what_taken line word.Permissive ts us w e =
    let a = went_well (name_at line ts)
    (λ name. semicolon_at line name.1 >>= λ end. named (what.Permissive name.0) end.1) (w, us) e in
    let b = went_well (semicolon_at line a.0.1) (λ end. named (what.Permissive a.0.0) end.1) (w, us) a.2 in
    let p = ok_parts (Some (what.Permissive a.0.0)) w b.0.1 us b.2 in
    let ta = name_taken line ts a.0.1 a.0.0 a.1 in
    let tb = semicolon_taken line a.0.1 b.0.1 b.1 in
    ends_as line word.Permissive ts b.0.1 us (Some (what.Permissive a.0.0)) w (record {
      vs = (ta.0, Word a.0.0) ∷ [];
      l = tb.0;
      parts = ta.1 ∙ ap (λ (x : Tokens). (ta.0, Word a.0.0) ∷ x) tb.1;
      spelled = SpellsStatement.permissive ta.0 a.0.0 ta.2;
    }) p.0 p.1
what_taken line word.Skipped ts us w e =
    let a = went_well (skipped_at line ts) (λ end. nothing end.1) (w, us) e in
    let p = ok_parts None w a.0.1 us a.2 in
    let r = skipped_taken line ts a.0.1 a.1 in
    ends_as line word.Skipped ts a.0.1 us None w
    (record { vs = r.vs; l = r.l; parts = r.parts; spelled = SpellsStatement.skipped r.vs r.spelled }) p.0 p.1
what_taken line word.Unknown ts us w e = absurd cc

text_taken : (most : ℕ) (sts all : List Statement) (ts : Tokens) → length ts ≤ most
    → statements_within most sts ts ≡ Ok all → SpellsText sts ts all
unfolding statements_within statement_from
text_taken most sts all [] enough e = let same : sts ≡ all = cc in rw (← same) (SpellsText.end sts)
text_taken zero sts all (t ∷ ts) enough e = absurd (omega arith)
text_taken (suc most) sts all ((line, Semicolon) ∷ ts) enough e =
    SpellsText.empty line ts sts all (text_taken most sts all ts (omega arith) e)
text_taken (suc most) sts all ((line, Word w) ∷ ts) enough e =
    let a = went_well (what_at line (keyword_of w) ts >>= added line sts) (λ next. statements_within most next.0 next.1)
    all e in
    let b = went_well (what_at line (keyword_of w) ts) (added line sts) a.0 a.1 in
    let c = went_well (with_statement line sts b.0.0) (λ more. placed more b.0.1) a.0 b.2 in
    let p = ok_parts c.0 a.0.0 b.0.1 a.0.1 c.2 in
    let r = what_taken line (keyword_of w) ts b.0.1 b.0.0 b.1 in
    let rest : statements_within most c.0 b.0.1 ≡ Ok all = rw (p.0, p.1) a.2 in
    let fewer : length b.0.1 ≤ most =
    omega (arith, enough, ap length r.parts, length-append r.vs ((r.l, Semicolon) ∷ b.0.1)) in
    rw r.parts (SpellsText.stated line r.l w r.vs b.0.1 b.0.0 sts c.0 all r.spelled c.1
    (text_taken most c.0 all b.0.1 fewer rest))
text_taken (suc most) sts all ((line, Comma) ∷ ts) enough e = absurd cc
text_taken (suc most) sts all ((line, Colon) ∷ ts) enough e = absurd cc
text_taken (suc most) sts all ((line, Open) ∷ ts) enough e = absurd cc
text_taken (suc most) sts all ((line, Close) ∷ ts) enough e = absurd cc
text_taken (suc most) sts all ((line, Star) ∷ ts) enough e = absurd cc
text_taken (suc most) sts all ((line, Tilde) ∷ ts) enough e = absurd cc
text_taken (suc most) sts all ((line, Dash) ∷ ts) enough e = absurd cc
text_taken (suc most) sts all ((line, Other) ∷ ts) enough e = absurd cc

pub read_is_spelled : (ts : Tokens) (sts : List Statement) → statements_of ts ≡ Ok sts → SpellsText [] ts sts
unfolding statements_of
read_is_spelled ts sts e = text_taken (length ts) [] sts ts (omega arith) e

-- ---- a whole text

pub found : (text : List ℕ) (sts : List Statement) → read text ≡ Ok sts → SpellsText [] (tokens 0 1 text) sts
unfolding read
found text sts e = read_is_spelled (tokens 0 1 text) sts
    (dash_cases (ltb MOST_TEXT_BYTES (length text)) TooLarge (Err TooLarge) (statements_of (tokens 0 1 text)) sts e).1

pub only : (text : List ℕ) (sts : List Statement) → length text ≤ MOST_TEXT_BYTES → SpellsText [] (tokens 0 1 text) sts
    → read text ≡ Ok sts
unfolding read
only text sts short s = rw (le-ltb MOST_TEXT_BYTES (length text) short) (spelled_is_read (tokens 0 1 text) sts s)

pub found_result : {E : Type 0} (view : E → List Statement) (r : Step E) (text : List ℕ)
    → Gives is_memory view r (read text) → IfOk r (λ v. SpellsText [] (tokens 0 1 text) (view v))
found_result view (Ok v) text h = found text (view v) h
found_result view (Err e) text h = tt
