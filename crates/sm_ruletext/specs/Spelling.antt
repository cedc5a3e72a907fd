-- The written grammar: which tokens spell what. The lines of tokens don't matter.
use Rattle.std.specs.Prelude.{◌≡◌, ◌<◌, length, ℕ, Bool, true, false, List, [], ◌∷◌, ◌++◌, Option, Some, None, Ok}
use Rattle.std.specs.Prelude.{Err, if◌then◌else◌}
use Rattle.sm_values.specs.declared.limits.TheConstants.{MOST_TEXT_BYTES}
use Rattle.sm_ruletext.specs.declared.token.TokenKind.{TokenKind}
use Rattle.sm_ruletext.specs.declared.token.TokenKind.TheVariants.{Word, Semicolon, Comma, Colon, Open, Close, Star}
use Rattle.sm_ruletext.specs.declared.token.TokenKind.TheVariants.{Tilde}
use Rattle.sm_ruletext.specs.declared.token.TokenKind.TheVariants.{Dash}
use Rattle.sm_ruletext.specs.declared.fault.RuleTextFault.{RuleTextFault}
use Rattle.sm_ruletext.specs.declared.fault.RuleTextFault.TheVariants.{Memory, TooLarge, Syntax, Unsupported, TooMany}
use Rattle.sm_ruletext.specs.declared.items.Items.{Items}
use Rattle.sm_ruletext.specs.Items.{Set}
use Rattle.sm_ruletext.specs.declared.rule.Rule.{Rule}
use Rattle.sm_ruletext.specs.declared.statement.RuleKind.{RuleKind}
use Rattle.sm_ruletext.specs.declared.statement.What.{What}
use Rattle.sm_ruletext.specs.declared.statement.What.TheVariants as what
use Rattle.sm_ruletext.specs.declared.statement.Statement.{Statement}
use Rattle.sm_ruletext.specs.declared.keyword.Keyword.{Keyword}
use Rattle.sm_ruletext.specs.declared.keyword.Keyword.TheVariants as word
use Rattle.sm_ruletext.specs.Lexing.{Tokens, tokens}
use Rattle.sm_ruletext.specs.Kept.{is_kept}
use Rattle.sm_ruletext.specs.Statements.{with_statement}
use Rattle.sm_ruletext.specs.Words.{is_self, keyword_of}
use Rattle.sm_ruletext.specs.Grammar.{no_items, set_of}

-- Tokens spell items: item, or item item ..: one item or more, which are added to the items before them.
pub data SpellsItems (may_self : Bool) : Tokens → Items → Items → Type 0 where
  name : (l : ℕ) (w : List ℕ) (i : Items) → is_self w ≡ false
      → SpellsItems may_self ((l, Word w) ∷ []) i (record i { plus = i.plus ++ w ∷ [] })
  own : (l : ℕ) (w : List ℕ) (i : Items) → is_self w ≡ true → may_self ≡ true
      → SpellsItems may_self ((l, Word w) ∷ []) i (record i { to_self = true })
  less : (l m : ℕ) (w : List ℕ) (i : Items) → is_self w ≡ false
      → SpellsItems may_self ((l, Dash) ∷ (m, Word w) ∷ []) i (record i { minus = i.minus ++ w ∷ [] })
  star : (l : ℕ) (i : Items) → SpellsItems may_self ((l, Star) ∷ []) i (record i { all = true })
  group : (l m : ℕ) (ts : Tokens) (i j : Items) → SpellsItems may_self ts i j
      → SpellsItems may_self ((l, Open) ∷ (ts ++ (m, Close) ∷ [])) i j
  more : (ts us : Tokens) (i j k : Items) → SpellsItems may_self ts i j → SpellsItems may_self us j k
      → SpellsItems may_self (ts ++ us) i k

-- Tokens spell a word or a group.
pub data SpellsSimple (may_self : Bool) : Tokens → Items → Type 0 where
  name : (l : ℕ) (w : List ℕ) → is_self w ≡ false
      → SpellsSimple may_self ((l, Word w) ∷ []) (record no_items { plus = w ∷ [] })
  own : (l : ℕ) (w : List ℕ) → is_self w ≡ true → may_self ≡ true
      → SpellsSimple may_self ((l, Word w) ∷ []) (record no_items { to_self = true })
  group : (l m : ℕ) (ts : Tokens) (i : Items) → SpellsItems may_self ts no_items i
      → SpellsSimple may_self ((l, Open) ∷ (ts ++ (m, Close) ∷ [])) i

-- Tokens spell a set: * | ~ word | ~ group | word | group.
pub data SpellsSet (line : ℕ) (may_self : Bool) : Tokens → Set × Bool → Type 0 where
  all : (l : ℕ) → SpellsSet line may_self ((l, Star) ∷ []) (set_of line false (record no_items { all = true }))
  complement : (l : ℕ) (ts : Tokens) (i : Items) → SpellsSimple false ts i
      → SpellsSet line may_self ((l, Tilde) ∷ ts) (set_of line true i)
  simple : (ts : Tokens) (i : Items) → SpellsSimple may_self ts i → SpellsSet line may_self ts (set_of line false i)

-- Tokens spell a rule: SOURCE TARGET : CLASS PERM.
pub data SpellsRule (line : ℕ) : Tokens → Rule → Type 0 where
  rule : (l : ℕ) (a b c d : Tokens) (source target class perm : Set × Bool)
      → SpellsSet line false a source → SpellsSet line true b target → SpellsSet line false c class
      → SpellsSet line false d perm
      → SpellsRule line (a ++ (b ++ ((l, Colon) ∷ (c ++ d))))
      (record { source = source.0; target = target.0; class = class.0; perm = perm.0; to_self = target.1 })

-- Tokens spell further names: , A , ..
pub data SpellsNames : Tokens → List (List ℕ) → Type 0 where
  none : SpellsNames [] []
  more : (l m : ℕ) (w : List ℕ) (ts : Tokens) (names : List (List ℕ)) → is_self w ≡ false → SpellsNames ts names
      → SpellsNames ((l, Comma) ∷ (m, Word w) ∷ ts) (w ∷ names)

-- No token is a semicolon.
abbrev pub HasNoSemicolon : Tokens → Type 0
HasNoSemicolon [] = Unit {0}
HasNoSemicolon ((l, Semicolon) ∷ ts) = ⊥
HasNoSemicolon ((l, k) ∷ ts) = HasNoSemicolon ts

-- Tokens spell what is between the first word of a statement and its semicolon.
pub data SpellsStatement (line : ℕ) : Keyword → Tokens → Option What → Type 0 where
  attribute : (l : ℕ) (w : List ℕ) → is_self w ≡ false
      → SpellsStatement line word.Attribute ((l, Word w) ∷ []) (Some (what.Attribute w))
  types : (l : ℕ) (w : List ℕ) (ts : Tokens) (names : List (List ℕ)) → is_self w ≡ false → SpellsNames ts names
      → SpellsStatement line word.Types ((l, Word w) ∷ ts) (Some (what.Declared w names))
  member : (l m : ℕ) (w a : List ℕ) (ts : Tokens) (names : List (List ℕ)) → is_self w ≡ false → is_self a ≡ false
      → SpellsNames ts names
      → SpellsStatement line word.Typeattribute ((l, Word w) ∷ (m, Word a) ∷ ts) (Some (what.Member w (a ∷ names)))
  rule : (kind : RuleKind) (ts : Tokens) (r : Rule) → SpellsRule line ts r
      → SpellsStatement line (word.Rule kind) ts (if is_kept r then Some (what.Rule kind r) else None)
  permissive : (l : ℕ) (w : List ℕ) → is_self w ≡ false
      → SpellsStatement line word.Permissive ((l, Word w) ∷ []) (Some (what.Permissive w))
  skipped : (ts : Tokens) → HasNoSemicolon ts → SpellsStatement line word.Skipped ts None

-- The tokens are statements, which are added to those before them.
pub data SpellsText : List Statement → Tokens → List Statement → Type 0 where
  end : (sts : List Statement) → SpellsText sts [] sts
  empty : (l : ℕ) (ts : Tokens) (sts all : List Statement) → SpellsText sts ts all
      → SpellsText sts ((l, Semicolon) ∷ ts) all
  stated : (line l : ℕ) (w : List ℕ) (vs ts : Tokens) (what : Option What) (sts more all : List Statement)
      → SpellsStatement line (keyword_of w) vs what
      → with_statement line sts what ≡ Ok more → SpellsText more ts all
      → SpellsText sts ((line, Word w) ∷ (vs ++ (l, Semicolon) ∷ ts)) all

-- A token is neither a word nor a semicolon.
abbrev pub BeginsNoStatement : TokenKind → Type 0
BeginsNoStatement (Word w) = ⊥
BeginsNoStatement Semicolon = ⊥
BeginsNoStatement k = Unit {0}

-- The tokens after the first word are no statement of the grammar.
abbrev pub SpellsNone : ℕ → Keyword → Tokens → Type 0
SpellsNone line k ts = (vs us : Tokens) (l : ℕ) (what : Option What) → ts ≡ vs ++ (l, Semicolon) ∷ us
    → SpellsStatement line k vs what → ⊥

-- The tokens are statements, and then the first fault.
pub data HasFault : List Statement → Tokens → RuleTextFault → Type 0 where
  empty : (l : ℕ) (ts : Tokens) (sts : List Statement) (e : RuleTextFault) → HasFault sts ts e
      → HasFault sts ((l, Semicolon) ∷ ts) e
  stated : (line l : ℕ) (w : List ℕ) (vs ts : Tokens) (what : Option What) (sts more : List Statement)
      (e : RuleTextFault) → SpellsStatement line (keyword_of w) vs what
      → with_statement line sts what ≡ Ok more → HasFault more ts e
      → HasFault sts ((line, Word w) ∷ (vs ++ (l, Semicolon) ∷ ts)) e
  too_many : (line l : ℕ) (w : List ℕ) (vs ts : Tokens) (what : Option What) (sts : List Statement)
      → SpellsStatement line (keyword_of w) vs what
      → with_statement line sts what ≡ Err TooMany → HasFault sts ((line, Word w) ∷ (vs ++ (l, Semicolon) ∷ ts)) TooMany
  unsupported : (line : ℕ) (w : List ℕ) (ts : Tokens) (sts : List Statement) → keyword_of w ≡ word.Unknown
      → HasFault sts ((line, Word w) ∷ ts) (Unsupported line)
  begins : (line : ℕ) (k : TokenKind) (ts : Tokens) (sts : List Statement) → BeginsNoStatement k
      → HasFault sts ((line, k) ∷ ts) (Syntax line)
  syntax : (line : ℕ) (w : List ℕ) (ts : Tokens) (sts : List Statement) → (keyword_of w ≡ word.Unknown → ⊥)
      → SpellsNone line (keyword_of w) ts → HasFault sts ((line, Word w) ∷ ts) (Syntax line)

-- Each error says this of the source.
abbrev pub IsFaultOf : RuleTextFault → List ℕ → Type 0
IsFaultOf Memory text = Unit {0}
IsFaultOf TooLarge text = MOST_TEXT_BYTES < length text
IsFaultOf (Syntax line) text = HasFault [] (tokens 0 1 text) (Syntax line)
IsFaultOf (Unsupported line) text = HasFault [] (tokens 0 1 text) (Unsupported line)
IsFaultOf TooMany text = HasFault [] (tokens 0 1 text) TooMany
