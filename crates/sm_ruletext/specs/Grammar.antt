-- The grammar, read from left to right over tokens. `line` is that of the statement.
use Rattle.std.specs.Prelude.{ℕ, zero, suc, Bool, true, false, if◌then◌else◌, List, [], ◌∷◌, ◌++◌, Result, Ok, Err}
use Rattle.sm_values.specs.Reading.{◌>>=◌, Gives}
use Rattle.sm_ruletext.specs.declared.token.TokenKind.{TokenKind}
use Rattle.sm_ruletext.specs.declared.token.TokenKind.TheVariants.{Word, Semicolon, Comma, Colon, Open, Close, Star}
use Rattle.sm_ruletext.specs.declared.token.TokenKind.TheVariants.{Tilde}
use Rattle.sm_ruletext.specs.declared.token.TokenKind.TheVariants.{Dash}
use Rattle.sm_ruletext.specs.declared.fault.RuleTextFault.{RuleTextFault}
use Rattle.sm_ruletext.specs.declared.fault.RuleTextFault.TheVariants.{TooLarge, Syntax, Unsupported, TooMany, Memory}
use Rattle.sm_ruletext.specs.Items.{Items, Set}
use Rattle.sm_ruletext.specs.declared.rule.Rule.{Rule}
use Rattle.sm_ruletext.specs.Lexing.{Tokens}
use Rattle.sm_ruletext.specs.Words.{is_self}

-- A step has a value or a fault.
abbrev pub Step : Type 0 → Type 0
Step A = Result A RuleTextFault

-- A reader returns a value and the tokens after it, or a fault.
abbrev pub Read : Type 0 → Type 0
Read A = Step (A × Tokens)

-- The fault is a failed allocation.
abbrev pub is_memory : RuleTextFault → Bool
is_memory Memory = true
is_memory TooLarge = false
is_memory (Syntax line) = false
is_memory (Unsupported line) = false
is_memory TooMany = false

-- The value and the tokens that are left are the expected ones, or an allocation failed.
abbrev pub Reads : {A B : Type 0} → (A → B) → Step A → Tokens → Read B → Type 0
Reads view result left expected = Gives is_memory (λ x. (view x, left)) result expected

-- ---- tokens and names

-- This reads the next token.
unfoldable pub kind_at : ℕ → Tokens → Read TokenKind
kind_at line [] = Err (Syntax line)
kind_at line ((l, k) ∷ ts) = Ok (k, ts)

-- This reads a colon.
unfoldable pub colon_at : ℕ → Tokens → Read (Unit {0})
colon_at line ((l, Colon) ∷ ts) = Ok (tt, ts)
colon_at line ts = Err (Syntax line)

-- This reads a semicolon.
unfoldable pub semicolon_at : ℕ → Tokens → Read (Unit {0})
semicolon_at line ((l, Semicolon) ∷ ts) = Ok (tt, ts)
semicolon_at line ts = Err (Syntax line)

-- This reads a name other than `self`.
unfoldable pub name_at : ℕ → Tokens → Read (List ℕ)
name_at line ((l, Word w) ∷ ts) = if is_self w then Err (Syntax line) else Ok (w, ts)
name_at line ts = Err (Syntax line)

-- This reads a comma before each further name, and the semicolon.
unfoldable pub names_at : ℕ → List (List ℕ) → Tokens → Read (List (List ℕ))
names_at line names ((l, Semicolon) ∷ ts) = Ok (names, ts)
names_at line names ((l, Comma) ∷ (m, Word w) ∷ ts) =
    if is_self w then Err (Syntax line) else names_at line (names ++ w ∷ []) ts
names_at line names ts = Err (Syntax line)

-- ---- sets

-- This is the empty list of items.
abbrev pub no_items : Items
no_items = record { all = false; to_self = false; plus = []; minus = [] }

-- These have one more name.
abbrev pub with_name : Items → List ℕ → Items
with_name items name = record items { plus = items.plus ++ name ∷ [] }

-- These have one more name after a `-`.
abbrev pub without_name : Items → List ℕ → Items
without_name items name = record items { minus = items.minus ++ name ∷ [] }

-- These have `*`.
abbrev pub with_all : Items → Items
with_all items = record items { all = true }

-- These have `self`.
abbrev pub with_self : Items → Items
with_self items = record items { to_self = true }

-- A word is appended to items; it may be `self` if may_self says so.
unfoldable pub with_word : ℕ → Bool → Items → List ℕ → Step Items
with_word line may_self items w =
    if is_self w then (if may_self then Ok (with_self items) else Err (Syntax line))
    else Ok (with_name items w)

-- This reads the items up to the `}` of the group. `depth` inner groups are open; `fresh` says that the token before is
-- a `{`.
unfoldable pub group_at : ℕ → Bool → ℕ → Bool → Items → Tokens → Read Items
group_at line may_self depth fresh items ((l, Word w) ∷ ts) =
    with_word line may_self items w >>= λ i. group_at line may_self depth false i ts
group_at line may_self depth fresh items ((l, Dash) ∷ (m, Word w) ∷ ts) =
    if is_self w then Err (Syntax line)
    else group_at line may_self depth false (without_name items w) ts
group_at line may_self depth fresh items ((l, Star) ∷ ts) =
    group_at line may_self depth false (with_all items) ts
group_at line may_self depth fresh items ((l, Open) ∷ ts) = group_at line may_self (suc depth) true items ts
group_at line may_self zero false items ((l, Close) ∷ ts) = Ok (items, ts)
group_at line may_self (suc depth) false items ((l, Close) ∷ ts) = group_at line may_self depth false items ts
group_at line may_self depth fresh items ts = Err (Syntax line)

-- This reads a word or a group, whose first token is k.
unfoldable pub items_from : ℕ → Bool → TokenKind → Tokens → Read Items
items_from line may_self (Word w) ts = with_word line may_self no_items w >>= λ i. Ok (i, ts)
items_from line may_self Open ts = group_at line may_self zero true no_items ts
items_from line may_self k ts = Err (Syntax line)

-- This is the set of items, and whether `self` is among them.
abbrev pub set_of : ℕ → Bool → Items → Set × Bool
set_of line complement items = (
  record { line = line; all = items.all; complement = complement; plus = items.plus; minus = items.minus },
  items.to_self,
)

-- This reads a set whose first token is k.
unfoldable pub set_from : ℕ → Bool → TokenKind → Tokens → Read (Set × Bool)
set_from line may_self Star ts = Ok (set_of line false (with_all no_items), ts)
set_from line may_self Tilde ts = do
  k ← kind_at line ts
  items ← items_from line false k.0 k.1
  Ok (set_of line true items.0, items.1)
set_from line may_self k ts = do
  items ← items_from line may_self k ts
  Ok (set_of line false items.0, items.1)

-- This reads a set.
unfoldable pub set_at : ℕ → Bool → Tokens → Read (Set × Bool)
set_at line may_self ts = do
  k ← kind_at line ts
  set_from line may_self k.0 k.1

-- This reads a rule, from its source on.
unfoldable pub rule_at : ℕ → Tokens → Read Rule
rule_at line ts = do
  source ← set_at line false ts
  target ← set_at line true source.1
  colon ← colon_at line target.1
  class ← set_at line false colon.1
  perm ← set_at line false class.1
  end ← semicolon_at line perm.1
  Ok (
    record { source = source.0.0; target = target.0.0; class = class.0.0; perm = perm.0.0; to_self = target.0.1 },
    end.1,
  )
