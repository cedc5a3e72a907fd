-- Each fault inside a statement is at its line, and which fault a text has.
use Rattle.std.proofs.Common.{inl, inr, ◌⊎◌, ◌≡◌, ℕ, zero, suc, ◌≤◌, Bool, true, false, cond, ◌&&◌, leb, ltb, ◌<◌}
use Rattle.std.proofs.Common.{List, [], ◌∷◌, ◌++◌, length, Option, Some, None, Ok, Err, refl, ap, ◌∙◌, arith}
use Rattle.std.proofs.lemmas.List.{length-append}
use Rattle.std.proofs.lemmas.Bool.{ltb-true}
use Rattle.std.specs.Prelude.{IfErr}
use Rattle.sm_ruletext.specs.declared.token.TokenKind.{TokenKind}
use Rattle.sm_ruletext.specs.declared.token.TokenKind.TheVariants.{Word, Semicolon, Comma, Colon, Open, Close, Star}
use Rattle.sm_ruletext.specs.declared.token.TokenKind.TheVariants.{Tilde}
use Rattle.sm_ruletext.specs.declared.token.TokenKind.TheVariants.{Dash, Other}
use Rattle.sm_ruletext.specs.declared.fault.RuleTextFault.{RuleTextFault}
use Rattle.sm_ruletext.specs.declared.fault.RuleTextFault.TheVariants.{Syntax, TooLarge, Unsupported, TooMany, Memory}
use Rattle.sm_ruletext.specs.declared.items.Items.{Items}
use Rattle.sm_ruletext.specs.Items.{Set}
use Rattle.sm_ruletext.specs.declared.statement.What.{What}
use Rattle.sm_ruletext.specs.declared.statement.Statement.{Statement}
use Rattle.sm_ruletext.specs.declared.keyword.Keyword.{Keyword}
use Rattle.sm_ruletext.specs.declared.keyword.Keyword.TheVariants as word
use Rattle.sm_ruletext.specs.Lexing.{Tokens, tokens}
use Rattle.sm_ruletext.specs.Words.{is_self, keyword_of}
use Rattle.sm_values.specs.Reading.{◌>>=◌, Gives}
use Rattle.sm_values.specs.declared.limits.TheConstants.{MOST_TEXT_BYTES}
use Rattle.sm_values.proofs.Readers.{went_well}
use Rattle.sm_ruletext.specs.declared.limits.TheConstants.{MOST_RULES}
use Rattle.sm_ruletext.specs.Grammar.{Step, Read, is_memory, no_items, set_of, with_word, kind_at, name_at, names_at}
use Rattle.sm_ruletext.specs.Grammar.{semicolon_at, colon_at, group_at, items_from, set_from, set_at, rule_at}
use Rattle.sm_ruletext.specs.Statements.{is_rule, rule_count, skipped_at, what_at, with_statement, statement_from}
use Rattle.sm_ruletext.specs.Statements.{statements_within, statements_of, read}
use Rattle.sm_ruletext.specs.Spelling.{SpellsStatement, SpellsNone, BeginsNoStatement, HasFault, IsFaultOf}
use Rattle.sm_ruletext.proofs.Turns.{ok_parts}
use Rattle.sm_ruletext.proofs.Stated.{what_again, what_taken, placed, added}

-- The only fault is Syntax, at this line.
abbrev pub OnlySyntax : {A : Type 0} → ℕ → Step A → Type 0
OnlySyntax line (Ok x) = Unit {0}
OnlySyntax line (Err e) = e ≡ Syntax line

bind_only : {A B : Type 0} (line : ℕ) (r : Step A) (f : A → Step B) → OnlySyntax line r
    → ((x : A) → OnlySyntax line (f x)) → OnlySyntax line (r >>= f)
bind_only line (Ok x) f h g = g x
bind_only line (Err e) f h g = h

cond_only : {A : Type 0} (line : ℕ) (b : Bool) (x y : Step A) → OnlySyntax line x → OnlySyntax line y
    → OnlySyntax line (cond b x y)
cond_only line true x y h g = h
cond_only line false x y h g = g

kind_only : (line : ℕ) (ts : Tokens) → OnlySyntax line (kind_at line ts)
unfolding kind_at
kind_only line [] = refl
kind_only line ((l, k) ∷ ts) = tt

word_only : (line : ℕ) (m : Bool) (i : Items) (w : List ℕ) → OnlySyntax line (with_word line m i w)
unfolding with_word
word_only line m i w = cond_only line (is_self w) (cond m (Ok (record i { to_self = true })) (Err (Syntax line)))
    (Ok (record i { plus = i.plus ++ w ∷ [] }))
    (cond_only line m (Ok (record i { to_self = true })) (Err (Syntax line)) tt refl) tt

colon_only : (line : ℕ) (ts : Tokens) → OnlySyntax line (colon_at line ts)
unfolding colon_at
colon_only line [] = refl
colon_only line ((l, Word w) ∷ ts) = refl
colon_only line ((l, Semicolon) ∷ ts) = refl
colon_only line ((l, Comma) ∷ ts) = refl
colon_only line ((l, Colon) ∷ ts) = tt
colon_only line ((l, Open) ∷ ts) = refl
colon_only line ((l, Close) ∷ ts) = refl
colon_only line ((l, Star) ∷ ts) = refl
colon_only line ((l, Tilde) ∷ ts) = refl
colon_only line ((l, Dash) ∷ ts) = refl
colon_only line ((l, Other) ∷ ts) = refl

semicolon_only : (line : ℕ) (ts : Tokens) → OnlySyntax line (semicolon_at line ts)
unfolding semicolon_at
semicolon_only line [] = refl
semicolon_only line ((l, Word w) ∷ ts) = refl
semicolon_only line ((l, Semicolon) ∷ ts) = tt
semicolon_only line ((l, Comma) ∷ ts) = refl
semicolon_only line ((l, Colon) ∷ ts) = refl
semicolon_only line ((l, Open) ∷ ts) = refl
semicolon_only line ((l, Close) ∷ ts) = refl
semicolon_only line ((l, Star) ∷ ts) = refl
semicolon_only line ((l, Tilde) ∷ ts) = refl
semicolon_only line ((l, Dash) ∷ ts) = refl
semicolon_only line ((l, Other) ∷ ts) = refl

name_only : (line : ℕ) (ts : Tokens) → OnlySyntax line (name_at line ts)
unfolding name_at
name_only line [] = refl
name_only line ((l, Word w) ∷ ts) =
    cond_only {A = List ℕ × Tokens} line (is_self w) (Err (Syntax line)) (Ok (w, ts)) refl tt
name_only line ((l, Semicolon) ∷ ts) = refl
name_only line ((l, Comma) ∷ ts) = refl
name_only line ((l, Colon) ∷ ts) = refl
name_only line ((l, Open) ∷ ts) = refl
name_only line ((l, Close) ∷ ts) = refl
name_only line ((l, Star) ∷ ts) = refl
name_only line ((l, Tilde) ∷ ts) = refl
name_only line ((l, Dash) ∷ ts) = refl
name_only line ((l, Other) ∷ ts) = refl

skipped_only : (line : ℕ) (ts : Tokens) → OnlySyntax line (skipped_at line ts)
unfolding skipped_at
skipped_only line [] = refl
skipped_only line ((l, Word w) ∷ ts) = skipped_only line ts
skipped_only line ((l, Semicolon) ∷ ts) = tt
skipped_only line ((l, Comma) ∷ ts) = skipped_only line ts
skipped_only line ((l, Colon) ∷ ts) = skipped_only line ts
skipped_only line ((l, Open) ∷ ts) = skipped_only line ts
skipped_only line ((l, Close) ∷ ts) = skipped_only line ts
skipped_only line ((l, Star) ∷ ts) = skipped_only line ts
skipped_only line ((l, Tilde) ∷ ts) = skipped_only line ts
skipped_only line ((l, Dash) ∷ ts) = skipped_only line ts
skipped_only line ((l, Other) ∷ ts) = skipped_only line ts

names_only : (line : ℕ) (names : List (List ℕ)) (ts : Tokens) → OnlySyntax line (names_at line names ts)
unfolding names_at
names_only line names [] = refl
names_only line names ((l, Word w) ∷ ts) = refl
names_only line names ((l, Semicolon) ∷ ts) = tt
names_only line names ((l, Comma) ∷ []) = refl
names_only line names ((l, Comma) ∷ (m, Word w) ∷ ts) =
    cond_only line (is_self w) (Err (Syntax line)) (names_at line (names ++ w ∷ []) ts) refl
    (names_only line (names ++ w ∷ []) ts)
names_only line names ((l, Comma) ∷ (m, Semicolon) ∷ ts) = refl
names_only line names ((l, Comma) ∷ (m, Comma) ∷ ts) = refl
names_only line names ((l, Comma) ∷ (m, Colon) ∷ ts) = refl
names_only line names ((l, Comma) ∷ (m, Open) ∷ ts) = refl
names_only line names ((l, Comma) ∷ (m, Close) ∷ ts) = refl
names_only line names ((l, Comma) ∷ (m, Star) ∷ ts) = refl
names_only line names ((l, Comma) ∷ (m, Tilde) ∷ ts) = refl
names_only line names ((l, Comma) ∷ (m, Dash) ∷ ts) = refl
names_only line names ((l, Comma) ∷ (m, Other) ∷ ts) = refl
names_only line names ((l, Colon) ∷ ts) = refl
names_only line names ((l, Open) ∷ ts) = refl
names_only line names ((l, Close) ∷ ts) = refl
names_only line names ((l, Star) ∷ ts) = refl
names_only line names ((l, Tilde) ∷ ts) = refl
names_only line names ((l, Dash) ∷ ts) = refl
names_only line names ((l, Other) ∷ ts) = refl

group_only : (line : ℕ) (m : Bool) (depth : ℕ) (fresh : Bool) (i : Items) (ts : Tokens)
    → OnlySyntax line (group_at line m depth fresh i ts)
unfolding group_at
group_only line m depth fresh i [] = refl
group_only line m depth fresh i ((l, Word w) ∷ ts) =
    bind_only line (with_word line m i w) (λ n. group_at line m depth false n ts) (word_only line m i w)
    (λ n. group_only line m depth false n ts)
group_only line m depth fresh i ((l, Semicolon) ∷ ts) = refl
group_only line m depth fresh i ((l, Comma) ∷ ts) = refl
group_only line m depth fresh i ((l, Colon) ∷ ts) = refl
group_only line m depth fresh i ((l, Open) ∷ ts) = group_only line m (suc depth) true i ts
group_only line m zero true i ((l, Close) ∷ ts) = refl
group_only line m (suc depth) true i ((l, Close) ∷ ts) = refl
group_only line m zero false i ((l, Close) ∷ ts) = tt
group_only line m (suc depth) false i ((l, Close) ∷ ts) = group_only line m depth false i ts
group_only line m depth fresh i ((l, Star) ∷ ts) = group_only line m depth false (record i { all = true }) ts
group_only line m depth fresh i ((l, Tilde) ∷ ts) = refl
group_only line m depth fresh i ((l, Dash) ∷ []) = refl
group_only line m depth fresh i ((l, Dash) ∷ (n, Word w) ∷ ts) =
    cond_only line (is_self w) (Err (Syntax line))
    (group_at line m depth false (record i { minus = i.minus ++ w ∷ [] }) ts) refl
    (group_only line m depth false (record i { minus = i.minus ++ w ∷ [] }) ts)
group_only line m depth fresh i ((l, Dash) ∷ (n, Semicolon) ∷ ts) = refl
group_only line m depth fresh i ((l, Dash) ∷ (n, Comma) ∷ ts) = refl
group_only line m depth fresh i ((l, Dash) ∷ (n, Colon) ∷ ts) = refl
group_only line m depth fresh i ((l, Dash) ∷ (n, Open) ∷ ts) = refl
group_only line m depth fresh i ((l, Dash) ∷ (n, Close) ∷ ts) = refl
group_only line m depth fresh i ((l, Dash) ∷ (n, Star) ∷ ts) = refl
group_only line m depth fresh i ((l, Dash) ∷ (n, Tilde) ∷ ts) = refl
group_only line m depth fresh i ((l, Dash) ∷ (n, Dash) ∷ ts) = refl
group_only line m depth fresh i ((l, Dash) ∷ (n, Other) ∷ ts) = refl
group_only line m depth fresh i ((l, Other) ∷ ts) = refl

abbrev items_made : Items → Tokens → Read Items
items_made i ts = Ok (i, ts)

abbrev set_made : ℕ → Bool → Items × Tokens → Read (Set × Bool)
set_made line complement r = Ok (set_of line complement r.0, r.1)

items_only : (line : ℕ) (m : Bool) (k : TokenKind) (ts : Tokens) → OnlySyntax line (items_from line m k ts)
unfolding items_from
items_only line m (Word w) ts =
    bind_only line (with_word line m no_items w) (λ i. items_made i ts) (word_only line m no_items w) (λ i. tt)
items_only line m Semicolon ts = refl
items_only line m Comma ts = refl
items_only line m Colon ts = refl
items_only line m Open ts = group_only line m zero true no_items ts
items_only line m Close ts = refl
items_only line m Star ts = refl
items_only line m Tilde ts = refl
items_only line m Dash ts = refl
items_only line m Other ts = refl

set_only : (line : ℕ) (m : Bool) (k : TokenKind) (ts : Tokens) → OnlySyntax line (set_from line m k ts)
unfolding set_from
set_only line m (Word w) ts =
    bind_only line (items_from line m (Word w) ts) (set_made line false) (items_only line m (Word w) ts) (λ r. tt)
set_only line m Semicolon ts =
    bind_only line (items_from line m Semicolon ts) (set_made line false) (items_only line m Semicolon ts) (λ r. tt)
set_only line m Comma ts =
    bind_only line (items_from line m Comma ts) (set_made line false) (items_only line m Comma ts) (λ r. tt)
set_only line m Colon ts =
    bind_only line (items_from line m Colon ts) (set_made line false) (items_only line m Colon ts) (λ r. tt)
set_only line m Open ts =
    bind_only line (items_from line m Open ts) (set_made line false) (items_only line m Open ts) (λ r. tt)
set_only line m Close ts =
    bind_only line (items_from line m Close ts) (set_made line false) (items_only line m Close ts) (λ r. tt)
set_only line m Star ts = tt
set_only line m Tilde ts =
    bind_only line (kind_at line ts) (λ k. items_from line false k.0 k.1 >>= set_made line true) (kind_only line ts)
    (λ k. bind_only line (items_from line false k.0 k.1) (set_made line true) (items_only line false k.0 k.1) (λ r. tt))
set_only line m Dash ts =
    bind_only line (items_from line m Dash ts) (set_made line false) (items_only line m Dash ts) (λ r. tt)
set_only line m Other ts =
    bind_only line (items_from line m Other ts) (set_made line false) (items_only line m Other ts) (λ r. tt)

sets_only : (line : ℕ) (m : Bool) (ts : Tokens) → OnlySyntax line (set_at line m ts)
unfolding set_at
sets_only line m ts = bind_only line (kind_at line ts) (λ k. set_from line m k.0 k.1) (kind_only line ts)
    (λ k. set_only line m k.0 k.1)

rule_only : (line : ℕ) (ts : Tokens) → OnlySyntax line (rule_at line ts)
unfolding rule_at
rule_only line ts =
    bind_only line (set_at line false ts) _ (sets_only line false ts) (λ source.
    bind_only line (set_at line true source.1) _ (sets_only line true source.1) (λ target.
    bind_only line (colon_at line target.1) _ (colon_only line target.1) (λ colon.
    bind_only line (set_at line false colon.1) _ (sets_only line false colon.1) (λ class.
    bind_only line (set_at line false class.1) _ (sets_only line false class.1) (λ perm.
    bind_only line (semicolon_at line perm.1) _ (semicolon_only line perm.1) (λ end. tt))))))

what_only : (line : ℕ) (k : Keyword) (ts : Tokens) → (k ≡ word.Unknown → ⊥) → OnlySyntax line (what_at line k ts)
unfolding what_at
what_only line word.Attribute ts h =
    bind_only line (name_at line ts) _ (name_only line ts)
    (λ name. bind_only line (semicolon_at line name.1) _ (semicolon_only line name.1) (λ end. tt))
what_only line word.Types ts h =
    bind_only line (name_at line ts) _ (name_only line ts)
    (λ name. bind_only line (names_at line [] name.1) _ (names_only line [] name.1) (λ names. tt))
what_only line word.Typeattribute ts h =
    bind_only line (name_at line ts) _ (name_only line ts)
    (λ name. bind_only line (name_at line name.1) _ (name_only line name.1)
    (λ first. bind_only line (names_at line (first.0 ∷ []) first.1) _ (names_only line (first.0 ∷ []) first.1)
    (λ names. tt)))
what_only line (word.Rule kind) ts h = bind_only line (rule_at line ts) _ (rule_only line ts) (λ rule. tt)
what_only line word.Permissive ts h =
    bind_only line (name_at line ts) _ (name_only line ts)
    (λ name. bind_only line (semicolon_at line name.1) _ (semicolon_only line name.1) (λ end. tt))
what_only line word.Skipped ts h = bind_only line (skipped_at line ts) _ (skipped_only line ts) (λ end. tt)
what_only line word.Unknown ts h = absurd (h refl)

-- ---- the first fault of a text

bind_err : {A B : Type 0} (r : Step A) (f : A → Step B) (e : RuleTextFault) → (r >>= f) ≡ Err e
    → (r ≡ Err e) ⊎ ((x : A) × (r ≡ Ok x) × (f x ≡ Err e))
bind_err (Ok x) f e h = inr (x, refl, h)
bind_err (Err d) f e h = inl cc

unknown_or : (k : Keyword) → (k ≡ word.Unknown) ⊎ (k ≡ word.Unknown → ⊥)
unknown_or word.Attribute = inr (λ h. cc)
unknown_or word.Types = inr (λ h. cc)
unknown_or word.Typeattribute = inr (λ h. cc)
unknown_or (word.Rule kind) = inr (λ h. cc)
unknown_or word.Permissive = inr (λ h. cc)
unknown_or word.Skipped = inr (λ h. cc)
unknown_or word.Unknown = inl refl

too_many_only : (line : ℕ) (sts : List Statement) (w : Option What) (e : RuleTextFault)
    → with_statement line sts w ≡ Err e → e ≡ TooMany
unfolding with_statement
too_many_only line sts None e h = absurd cc
too_many_only line sts (Some w) e h = by (is_rule w && leb MOST_RULES (rule_count sts)) h where
  by : (b : Bool) → cond {A = Step (List Statement)} b (Err TooMany) (Ok (sts ++ record { line = line; what = w } ∷ []))
      ≡ Err e → e ≡ TooMany
  by true h = cc
  by false h = absurd cc

-- A statement with an Err of Syntax is spelled by no front.
spells_none : (line : ℕ) (k : Keyword) (ts : Tokens) (e : RuleTextFault) → what_at line k ts ≡ Err e
    → SpellsNone line k ts
spells_none line k ts e h vs us l w parts s =
    let again : what_at line k ts ≡ Ok (w, us) = rw parts (what_again line l k vs us w s) in cc

unsupported_is : (line : ℕ) (k : Keyword) (ts : Tokens) → k ≡ word.Unknown → what_at line k ts ≡ Err (Unsupported line)
unfolding what_at
unsupported_is line k ts h = rw h refl

syntax_is : (line : ℕ) (k : Keyword) (ts : Tokens) (e : RuleTextFault) → (k ≡ word.Unknown → ⊥)
    → what_at line k ts ≡ Err e → e ≡ Syntax line
syntax_is line k ts e known h = rw h at (what_only line k ts known)

statement_fault : (line : ℕ) (w : List ℕ) (sts : List Statement) (ts : Tokens) (e : RuleTextFault)
    → what_at line (keyword_of w) ts ≡ Err e → HasFault sts ((line, Word w) ∷ ts) e
statement_fault line w sts ts e h = elim (unknown_or (keyword_of w)) [
  | inl u ↦ (let e-is : e ≡ Unsupported line = let at : what_at line (keyword_of w) ts
      ≡ Err (Unsupported line) = unsupported_is line (keyword_of w) ts u in cc in
      rw e-is (HasFault.unsupported line w ts sts u))
  | inr known ↦ rw (syntax_is line (keyword_of w) ts e known h)
      (HasFault.syntax line w ts sts known (spells_none line (keyword_of w) ts e h))
]

stated_fault : (line l : ℕ) (w : List ℕ) (vs behind us : Tokens) (what : Option What) (sts made more : List Statement)
    (e : RuleTextFault) (ts : Tokens) → ts ≡ vs ++ (l, Semicolon) ∷ behind → behind ≡ us → made ≡ more
    → SpellsStatement line (keyword_of w) vs what → with_statement line sts what ≡ Ok made → HasFault more us e
    → HasFault sts ((line, Word w) ∷ ts) e
stated_fault line l w vs behind us what sts made more e ts parts behind-is made-is spelled step h =
    rw (parts, behind-is) (HasFault.stated line l w vs us what sts more e spelled
    (step ∙ ap (λ (x : List Statement). Ok x) made-is) h)

begins_is : (line : ℕ) (k : TokenKind) (sts : List Statement) (ts : Tokens) (e : RuleTextFault) → BeginsNoStatement k
    → Syntax line ≡ e → HasFault sts ((line, k) ∷ ts) e
begins_is line k sts ts e b h = rw (← h) (HasFault.begins line k ts sts b)

fault_taken : (most : ℕ) (sts : List Statement) (ts : Tokens) (e : RuleTextFault) → length ts ≤ most
    → statements_within most sts ts ≡ Err e → HasFault sts ts e
unfolding statements_within statement_from
fault_taken most sts [] e enough h = absurd cc
fault_taken zero sts (t ∷ ts) e enough h = absurd (omega arith)
fault_taken (suc most) sts ((line, Semicolon) ∷ ts) e enough h =
    HasFault.empty line ts sts e (fault_taken most sts ts e (omega arith) h)
fault_taken (suc most) sts ((line, Word w) ∷ ts) e enough h =
    elim (bind_err (what_at line (keyword_of w) ts >>= added line sts) (λ next. statements_within most next.0 next.1) e
    h) [
      | inl g ↦ elim (bind_err (what_at line (keyword_of w) ts) (added line sts) e g) [
        | inl f ↦ statement_fault line w sts ts e f
        | inr f ↦ many f.0.0 f.0.1 f.1 f.2
      ]
      | inr g ↦ later g.0.0 g.0.1 (λ en t. fault_taken most g.0.0 g.0.1 e en t) g.1 g.2
    ] where
      many : (what : Option What) (us : Tokens) → what_at line (keyword_of w) ts ≡ Ok (what, us)
          → added line sts (what, us) ≡ Err e → HasFault sts ((line, Word w) ∷ ts) e
      many what us f d =
          let r = what_taken line (keyword_of w) ts us what f in
          elim (bind_err (with_statement line sts what) (λ more. placed more us) e d) [
            | inl c ↦ (let e-is = too_many_only line sts what e c in
                rw (r.parts, e-is) (HasFault.too_many line r.l w r.vs us what sts r.spelled (rw e-is at c)))
            | inr c ↦ absurd (no_err c.0 us c.2)
          ] where
            no_err : (more : List Statement) (us : Tokens) → placed more us ≡ Err e → ⊥
            no_err more us c = cc

      later : (more : List Statement) (us : Tokens)
          → (length us ≤ most → statements_within most more us ≡ Err e → HasFault more us e)
          → (what_at line (keyword_of w) ts >>= added line sts) ≡ Ok (more, us) → statements_within most more us ≡ Err e
          → HasFault sts ((line, Word w) ∷ ts) e
      later more us hence g rest =
          let b = went_well (what_at line (keyword_of w) ts) (added line sts) (more, us) g in
          let c = went_well (with_statement line sts b.0.0) (λ x. placed x b.0.1) (more, us) b.2 in
          let p = ok_parts c.0 more b.0.1 us c.2 in
          let r = what_taken line (keyword_of w) ts b.0.1 b.0.0 b.1 in
          let fewer : length us ≤ most =
          omega (
            arith,
            enough,
            ap length r.parts,
            length-append r.vs ((r.l, Semicolon) ∷ b.0.1),
            ap (λ (x : Tokens). length x) p.1,
          ) in
          stated_fault line r.l w r.vs b.0.1 us b.0.0 sts c.0 more e ts r.parts p.1 p.0 r.spelled c.1 (hence fewer rest)
fault_taken (suc most) sts ((line, Comma) ∷ ts) e enough h = begins_is line Comma sts ts e tt cc
fault_taken (suc most) sts ((line, Colon) ∷ ts) e enough h = begins_is line Colon sts ts e tt cc
fault_taken (suc most) sts ((line, Open) ∷ ts) e enough h = begins_is line Open sts ts e tt cc
fault_taken (suc most) sts ((line, Close) ∷ ts) e enough h = begins_is line Close sts ts e tt cc
fault_taken (suc most) sts ((line, Star) ∷ ts) e enough h = begins_is line Star sts ts e tt cc
fault_taken (suc most) sts ((line, Tilde) ∷ ts) e enough h = begins_is line Tilde sts ts e tt cc
fault_taken (suc most) sts ((line, Dash) ∷ ts) e enough h = begins_is line Dash sts ts e tt cc
fault_taken (suc most) sts ((line, Other) ∷ ts) e enough h = begins_is line Other sts ts e tt cc

pub fault_is_first : (ts : Tokens) (e : RuleTextFault) → statements_of ts ≡ Err e → HasFault [] ts e
unfolding statements_of
fault_is_first ts e h = fault_taken (length ts) [] ts e (omega arith) h

no_too_large : (sts : List Statement) (ts : Tokens) → HasFault sts ts TooLarge → ⊥
no_too_large _ _ (HasFault.empty l ts sts _ h) = no_too_large sts ts h
no_too_large _ _ (HasFault.stated line l w vs ts what sts more _ s g h) = no_too_large more ts h

pub fault_result : {E : Type 0} (view : E → List Statement) (r : Step E) (text : List ℕ)
    → Gives is_memory view r (read text) → IfErr r (λ e. IsFaultOf e text)
unfolding read
fault_result view (Ok v) text h = tt
fault_result view (Err Memory) text h = tt
fault_result view (Err TooLarge) text h = by (ltb MOST_TEXT_BYTES (length text)) refl h where
  by : (b : Bool) → ltb MOST_TEXT_BYTES (length text) ≡ b
      → cond {A = Step (List Statement)} b (Err TooLarge) (statements_of (tokens 0 1 text)) ≡ Err TooLarge
      → MOST_TEXT_BYTES < length text
  by true e g = ltb-true MOST_TEXT_BYTES (length text) e
  by false e g = absurd (no_too_large [] (tokens 0 1 text) (fault_is_first (tokens 0 1 text) TooLarge g))
fault_result view (Err (Syntax n)) text h = by (ltb MOST_TEXT_BYTES (length text)) h where
  by : (b : Bool) → cond {A = Step (List Statement)} b (Err TooLarge) (statements_of (tokens 0 1 text)) ≡ Err (Syntax n)
      → HasFault [] (tokens 0 1 text) (Syntax n)
  by true g = absurd cc
  by false g = fault_is_first (tokens 0 1 text) (Syntax n) g
fault_result view (Err (Unsupported n)) text h = by (ltb MOST_TEXT_BYTES (length text)) h where
  by : (b : Bool) → cond {A = Step (List Statement)} b (Err TooLarge) (statements_of (tokens 0 1 text))
      ≡ Err (Unsupported n) → HasFault [] (tokens 0 1 text) (Unsupported n)
  by true g = absurd cc
  by false g = fault_is_first (tokens 0 1 text) (Unsupported n) g
fault_result view (Err TooMany) text h = by (ltb MOST_TEXT_BYTES (length text)) h where
  by : (b : Bool) → cond {A = Step (List Statement)} b (Err TooLarge) (statements_of (tokens 0 1 text)) ≡ Err TooMany
      → HasFault [] (tokens 0 1 text) TooMany
  by true g = absurd cc
  by false g = fault_is_first (tokens 0 1 text) TooMany g
