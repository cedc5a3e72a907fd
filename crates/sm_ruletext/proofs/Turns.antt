-- The turns of the loops that read names and items.
use Rattle.std.proofs.Common.{◌≡◌, ℕ, Bool, true, false, cond, List, [], ◌∷◌, ◌++◌, Ok, Err, refl, sym, ap, ◌∙◌}
use Rattle.sm_ruletext.specs.declared.token.TokenKind.{TokenKind}
use Rattle.sm_ruletext.specs.declared.token.TokenKind.TheVariants.{Word, Semicolon, Comma, Colon, Open, Close, Star}
use Rattle.sm_ruletext.specs.declared.token.TokenKind.TheVariants.{Tilde}
use Rattle.sm_ruletext.specs.declared.token.TokenKind.TheVariants.{Dash, Other}
use Rattle.sm_ruletext.specs.declared.fault.RuleTextFault.TheVariants.{Syntax}
use Rattle.sm_ruletext.specs.Items.{Items}
use Rattle.sm_ruletext.specs.Lexing.{Tokens}
use Rattle.sm_ruletext.specs.Words.{is_self}
use Rattle.sm_ruletext.specs.Grammar.{Step, Read, without_name, kind_at, name_at, names_at, group_at}

abbrev done : {A : Type 0} → A → Step A
done x = Ok x

abbrev pair : {A B : Type 0} → A → B → A × B
pair a b = (a, b)

-- `cc` takes no pair apart.
pub ok_parts : {A B : Type 0} (a c : A) (b d : B) → done (pair a b) ≡ done (pair c d) → (a ≡ c) × (b ≡ d)
ok_parts {A} {B} a c b d e =
    let h : pair a b ≡ pair c d = cc in
    (ap (λ (p : A × B). p.0) h, ap (λ (p : A × B). p.1) h)

-- A name that was read is the word in front, and is not `self`.
pub name_taken : (line : ℕ) (ts us : Tokens) (name : List ℕ) → name_at line ts ≡ Ok (name, us)
    → (l : ℕ) × (ts ≡ (l, Word name) ∷ us) × (is_self name ≡ false)
unfolding name_at
name_taken line [] us name e = absurd cc
name_taken line ((l, Word w) ∷ ts) us name e = word_taken (is_self w) refl e where
  word_taken : (b : Bool) → is_self w ≡ b → cond {A = Read (List ℕ)} b (Err (Syntax line)) (Ok (w, ts)) ≡ Ok (name, us)
      → (k : ℕ) × ((l, Word w) ∷ ts ≡ (k, Word name) ∷ us) × (is_self name ≡ false)
  word_taken true h f = absurd cc
  word_taken false h f = let p = ok_parts w name ts us f in (l, cc, rw p.0 at h)
name_taken line ((l, Semicolon) ∷ ts) us name e = absurd cc
name_taken line ((l, Comma) ∷ ts) us name e = absurd cc
name_taken line ((l, Colon) ∷ ts) us name e = absurd cc
name_taken line ((l, Open) ∷ ts) us name e = absurd cc
name_taken line ((l, Close) ∷ ts) us name e = absurd cc
name_taken line ((l, Star) ∷ ts) us name e = absurd cc
name_taken line ((l, Tilde) ∷ ts) us name e = absurd cc
name_taken line ((l, Dash) ∷ ts) us name e = absurd cc
name_taken line ((l, Other) ∷ ts) us name e = absurd cc

pub kind_taken : (line : ℕ) (ts us : Tokens) (k : TokenKind) → kind_at line ts ≡ Ok (k, us) → (l : ℕ)
    × (ts ≡ (l, k) ∷ us)
unfolding kind_at
kind_taken line [] us k e = absurd cc
kind_taken line ((l, m) ∷ ts) us k e = let p = ok_parts m k ts us e in (l, cc)

names_comma : (line l : ℕ) (names : List (List ℕ)) (ts us : Tokens) (name : List ℕ) → name_at line ts ≡ Ok (name, us)
    → names_at line names ((l, Comma) ∷ ts) ≡ names_at line (names ++ name ∷ []) us
unfolding names_at
names_comma line l names ts us name e =
    let t = name_taken line ts us name e in
    rw (t.1, t.2) refl

pub names_turn : (line : ℕ) (names more : List (List ℕ)) (ts us vs : Tokens) (k : TokenKind) (name : List ℕ)
    (total : Read (List (List ℕ)))
    → kind_at line ts ≡ Ok (k, us) → k ≡ Comma → name_at line us ≡ Ok (name, vs) → more ≡ names ++ name ∷ []
    → names_at line names ts ≡ total → names_at line more vs ≡ total
names_turn line names more ts us vs k name total kind-is comma-is name-is more-is so_far =
    let t = kind_taken line ts us k kind-is in
    rw more-is (sym (names_comma line t.0 names us vs name name-is)
    ∙ (ap (λ (x : TokenKind). names_at line names ((t.0, x) ∷ us)) (sym comma-is)
    ∙ (ap (λ (x : Tokens). names_at line names x) (sym t.1) ∙ so_far)))

group_dash : (line l depth : ℕ) (may_self fresh : Bool) (items : Items) (ts us : Tokens) (name : List ℕ)
    → name_at line ts ≡ Ok (name, us)
    → group_at line may_self depth fresh items ((l, Dash) ∷ ts)
    ≡ group_at line may_self depth false (without_name items name) us
unfolding group_at
group_dash line l depth may_self fresh items ts us name e =
    let t = name_taken line ts us name e in
    rw (t.1, t.2) refl

pub group_turn : (line depth : ℕ) (may_self fresh : Bool) (items more : Items) (ts us vs : Tokens) (k : TokenKind)
    (name : List ℕ) (total : Read Items)
    → kind_at line ts ≡ Ok (k, us) → k ≡ Dash → name_at line us ≡ Ok (name, vs) → more ≡ without_name items name
    → group_at line may_self depth fresh items ts ≡ total
    → group_at line may_self depth false more vs ≡ total
group_turn line depth may_self fresh items more ts us vs k name total kind-is dash-is name-is more-is so_far =
    let t = kind_taken line ts us k kind-is in
    rw more-is (sym (group_dash line t.0 depth may_self fresh items us vs name name-is)
    ∙ (ap (λ (x : TokenKind). group_at line may_self depth fresh items ((t.0, x) ∷ us)) (sym dash-is)
    ∙ (ap (λ (x : Tokens). group_at line may_self depth fresh items x) (sym t.1) ∙ so_far)))
