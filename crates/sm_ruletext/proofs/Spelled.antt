-- What is read is spelled so, and what is spelled so is read.
use Rattle.std.proofs.Common.{inl, inr, ◌⊎◌, ◌≡◌, ℕ, zero, suc, Bool, true, false, cond, List, [], ◌∷◌, ◌++◌, Ok, Err}
use Rattle.std.proofs.Common.{refl, sym, ap, subst, ◌∙◌, append_assoc}
use Rattle.std.proofs.lemmas.List.{append-nil}
use Rattle.sm_ruletext.specs.declared.token.TokenKind.{TokenKind}
use Rattle.sm_ruletext.specs.declared.token.TokenKind.TheVariants.{Word, Semicolon, Comma, Colon, Open, Close, Star}
use Rattle.sm_ruletext.specs.declared.token.TokenKind.TheVariants.{Tilde}
use Rattle.sm_ruletext.specs.declared.token.TokenKind.TheVariants.{Dash, Other}
use Rattle.sm_ruletext.specs.declared.fault.RuleTextFault.{RuleTextFault}
use Rattle.sm_ruletext.specs.declared.fault.RuleTextFault.TheVariants.{Syntax}
use Rattle.sm_ruletext.specs.Items.{Items}
use Rattle.sm_ruletext.specs.Items.{Set}
use Rattle.sm_ruletext.specs.declared.rule.Rule.{Rule}
use Rattle.sm_ruletext.specs.Lexing.{Tokens}
use Rattle.sm_ruletext.specs.Words.{is_self}
use Rattle.sm_values.specs.Reading.{◌>>=◌}
use Rattle.sm_values.proofs.Readers.{went_well}
use Rattle.sm_ruletext.specs.Grammar.{Step, Read, no_items, with_word, group_at, items_from, set_of, set_from, set_at}
use Rattle.sm_ruletext.specs.Grammar.{kind_at, colon_at, semicolon_at, rule_at}
use Rattle.sm_ruletext.proofs.Turns.{ok_parts}
use Rattle.sm_ruletext.specs.Spelling.{SpellsItems, SpellsSimple, SpellsSet, SpellsRule}

-- ---- what is spelled so is read

with_word-name : (line : ℕ) (m : Bool) (i : Items) (w : List ℕ) → is_self w ≡ false
    → with_word line m i w ≡ Ok (record i { plus = i.plus ++ w ∷ [] })
unfolding with_word
with_word-name line m i w h = rw h refl

with_word-own : (line : ℕ) (m : Bool) (i : Items) (w : List ℕ) → is_self w ≡ true → m ≡ true
    → with_word line m i w ≡ Ok (record i { to_self = true })
unfolding with_word
with_word-own line m i w h e = rw (h, e) refl

pub items_again : (line : ℕ) (m : Bool) (ts : Tokens) (i j : Items) → SpellsItems m ts i j
    → (depth : ℕ) (fresh : Bool) (us : Tokens)
    → group_at line m depth fresh i (ts ++ us) ≡ group_at line m depth false j us
unfolding group_at
items_again line m _ _ _ (SpellsItems.name l w i h) depth fresh us = rw (with_word-name line m i w h) refl
items_again line m _ _ _ (SpellsItems.own l w i h e) depth fresh us = rw (with_word-own line m i w h e) refl
items_again line m _ _ _ (SpellsItems.less l k w i h) depth fresh us = rw h refl
items_again line m _ _ _ (SpellsItems.star l i) depth fresh us = refl
items_again line m _ _ _ (SpellsItems.group l k vs i j s) depth fresh us =
    let e : (vs ++ (k, Close) ∷ []) ++ us ≡ vs ++ (k, Close) ∷ us = append_assoc vs ((k, Close) ∷ []) us in
    ap (λ (x : Tokens). group_at line m (suc depth) true i x) e
    ∙ items_again line m vs i j s (suc depth) true ((k, Close) ∷ us)
items_again line m _ _ _ (SpellsItems.more vs ws i n j s t) depth fresh us =
    ap (λ (x : Tokens). group_at line m depth fresh i x) (append_assoc vs ws us)
    ∙ (items_again line m vs i n s depth fresh (ws ++ us) ∙ items_again line m ws n j t depth false us)

abbrev head_kind : Tokens → TokenKind
head_kind [] = Other
head_kind ((l, k) ∷ ts) = k

closes : (line : ℕ) (m : Bool) (i : Items) (l : ℕ) (us : Tokens)
    → group_at line m 0 false i ((l, Close) ∷ us) ≡ Ok (i, us)
unfolding group_at
closes line m i l us = refl

simple_again : (line l : ℕ) (m : Bool) (k : TokenKind) (ts vs us : Tokens) (i : Items) → SpellsSimple m vs i
    → vs ++ us ≡ (l, k) ∷ ts → items_from line m k ts ≡ Ok (i, us)
unfolding items_from
simple_again line l m k ts _ us _ (SpellsSimple.name n w h) e =
    let k-is : Word w ≡ k = ap head_kind e in
    let ts-is : us ≡ ts = cc in
    rw (← k-is, ← ts-is, with_word-name line m no_items w h) refl
simple_again line l m k ts _ us _ (SpellsSimple.own n w h t) e =
    let k-is : Word w ≡ k = ap head_kind e in
    let ts-is : us ≡ ts = cc in
    rw (← k-is, ← ts-is, with_word-own line m no_items w h t) refl
simple_again line l m k ts _ us _ (SpellsSimple.group n p vs i s) e =
    let k-is : Open ≡ k = ap head_kind e in
    let ts-is : (vs ++ (p, Close) ∷ []) ++ us ≡ ts = cc in
    rw (
      ← k-is,
      ← ts-is,
      append_assoc vs ((p, Close) ∷ []) us,
      items_again line m vs no_items i s 0 true ((p, Close) ∷ us),
    ) (closes line m i p us)

-- ---- what is read is spelled so

word_cases : (line : ℕ) (m : Bool) (i j : Items) (w : List ℕ) → with_word line m i w ≡ Ok j
    → ((is_self w ≡ true) × (m ≡ true) × (j ≡ record i { to_self = true }))
    ⊎ ((is_self w ≡ false) × (j ≡ record i { plus = i.plus ++ w ∷ [] }))
unfolding with_word
word_cases line m i j w e = by (is_self w) refl m refl e where
  by : (b : Bool) → is_self w ≡ b → (n : Bool) → m ≡ n
      → cond {A = Step Items} b (cond {A = Step Items} n (Ok (record i { to_self = true })) (Err (Syntax line)))
      (Ok (record i { plus = i.plus ++ w ∷ [] })) ≡ Ok j
      → ((is_self w ≡ true) × (m ≡ true) × (j ≡ record i { to_self = true }))
      ⊎ ((is_self w ≡ false) × (j ≡ record i { plus = i.plus ++ w ∷ [] }))
  by true h true t f = inl (h, t, cc)
  by true h false t f = absurd cc
  by false h n t f = inr (h, cc)

word_spelled : (line l : ℕ) (m : Bool) (i j : Items) (w : List ℕ) → with_word line m i w ≡ Ok j
    → SpellsItems m ((l, Word w) ∷ []) i j
word_spelled line l m i j w e = elim (word_cases line m i j w e) [
  | inl h ↦ rw h.2 (SpellsItems.own l w i h.0 h.1)
  | inr h ↦ rw h.1 (SpellsItems.name l w i h.0)
]

-- No item, if there was one before, or items.
abbrev Added : Bool → Bool → Tokens → Items → Items → Type 0
Added m true vs i j = SpellsItems m vs i j
Added m false vs i j = SpellsItems m vs i j ⊎ ((vs ≡ []) × (i ≡ j))

-- The rest of a group, and of the `depth` open groups inside it, up to its `}`.
record Rest (m fresh : Bool) (ts ws : Tokens) (i n : Items) : Type 0 where
  vs : Tokens
  l : ℕ
  parts : ts ≡ vs ++ (l, Close) ∷ ws
  added : Added m fresh vs i n

abbrev Closes : Bool → ℕ → Bool → Tokens → Items → Items → Tokens → Type 0
Closes m zero fresh ts i j us = Rest m fresh ts us i j
Closes m (suc depth) fresh ts i j us =
    (ws : Tokens) × (n : Items) × Rest m fresh ts ws i n × Closes m depth false ws n j us

added_more : (m fresh : Bool) (a vs : Tokens) (i n j : Items) → SpellsItems m a i n → Added m false vs n j
    → Added m fresh (a ++ vs) i j
added_more m true a vs i n j s (inl t) = SpellsItems.more a vs i n j s t
added_more m true a vs i n j s (inr t) = rw (t.0, append-nil a, ← t.1) s
added_more m false a vs i n j s (inl t) = inl (SpellsItems.more a vs i n j s t)
added_more m false a vs i n j s (inr t) = inl (rw (t.0, append-nil a, ← t.1) s)

rest_more : (m fresh : Bool) (a ts ws : Tokens) (i n j : Items) → SpellsItems m a i n → Rest m false ts ws n j
    → Rest m fresh (a ++ ts) ws i j
rest_more m fresh a ts ws i n j s r = record {
  vs = a ++ r.vs;
  l = r.l;
  parts = ap (λ (x : Tokens). a ++ x) r.parts ∙ sym (append_assoc a r.vs ((r.l, Close) ∷ ws));
  added = added_more m fresh a r.vs i n j s r.added;
}

closes_more : (m : Bool) (depth : ℕ) (fresh : Bool) (a ts us : Tokens) (i n j : Items) → SpellsItems m a i n
    → Closes m depth false ts n j us → Closes m depth fresh (a ++ ts) i j us
closes_more m zero fresh a ts us i n j s c = rest_more m fresh a ts us i n j s c
closes_more m (suc depth) fresh a ts us i n j s c = (c.0, c.1, rest_more m fresh a ts c.0 i n c.1 s c.2, c.3)

pub dash_cases : {A : Type 0} (b : Bool) (f : RuleTextFault) (x y : Step A) (z : A) → cond b (Err f) y ≡ Ok z
    → (b ≡ false) × (y ≡ Ok z)
dash_cases true f x y z e = absurd cc
dash_cases false f x y z e = (refl, e)

group_taken : (line : ℕ) (m : Bool) (depth : ℕ) (fresh : Bool) (i : Items) (ts : Tokens) (j : Items) (us : Tokens)
    → group_at line m depth fresh i ts ≡ Ok (j, us) → Closes m depth fresh ts i j us
unfolding group_at
group_taken line m depth fresh i [] j us e = absurd cc
group_taken line m depth fresh i ((l, Word w) ∷ ts) j us e =
    let b = went_well (with_word line m i w) (λ n. group_at line m depth false n ts) (j, us) e in
    closes_more m depth fresh ((l, Word w) ∷ []) ts us i b.0 j (word_spelled line l m i b.0 w b.1)
    (group_taken line m depth false b.0 ts j us b.2)
group_taken line m depth fresh i ((l, Dash) ∷ []) j us e = absurd cc
group_taken line m depth fresh i ((l, Dash) ∷ (n, Word w) ∷ ts) j us e =
    let more : Items = record i { minus = i.minus ++ w ∷ [] } in
    let b = dash_cases (is_self w) (Syntax line) (Err (Syntax line)) (group_at line m depth false more ts) (j, us) e in
    closes_more m depth fresh ((l, Dash) ∷ (n, Word w) ∷ []) ts us i more j (SpellsItems.less l n w i b.0)
    (group_taken line m depth false more ts j us b.1)
group_taken line m depth fresh i ((l, Dash) ∷ (n, Semicolon) ∷ ts) j us e = absurd cc
group_taken line m depth fresh i ((l, Dash) ∷ (n, Comma) ∷ ts) j us e = absurd cc
group_taken line m depth fresh i ((l, Dash) ∷ (n, Colon) ∷ ts) j us e = absurd cc
group_taken line m depth fresh i ((l, Dash) ∷ (n, Open) ∷ ts) j us e = absurd cc
group_taken line m depth fresh i ((l, Dash) ∷ (n, Close) ∷ ts) j us e = absurd cc
group_taken line m depth fresh i ((l, Dash) ∷ (n, Star) ∷ ts) j us e = absurd cc
group_taken line m depth fresh i ((l, Dash) ∷ (n, Tilde) ∷ ts) j us e = absurd cc
group_taken line m depth fresh i ((l, Dash) ∷ (n, Dash) ∷ ts) j us e = absurd cc
group_taken line m depth fresh i ((l, Dash) ∷ (n, Other) ∷ ts) j us e = absurd cc
group_taken line m depth fresh i ((l, Star) ∷ ts) j us e =
    let more : Items = record i { all = true } in
    closes_more m depth fresh ((l, Star) ∷ []) ts us i more j (SpellsItems.star l i)
    (group_taken line m depth false more ts j us e)
group_taken line m depth fresh i ((l, Open) ∷ ts) j us e =
    let c = group_taken line m (suc depth) true i ts j us e in
    let r = c.2 in
    let front : Tokens = (l, Open) ∷ (r.vs ++ (r.l, Close) ∷ []) in
    let e : (l, Open) ∷ ts ≡ front ++ c.0 =
    ap (λ (x : Tokens). (l, Open) ∷ x) (r.parts ∙ sym (append_assoc r.vs ((r.l, Close) ∷ []) c.0)) in
    subst (λ (x : Tokens). Closes m depth fresh x i j us) (sym e)
    (closes_more m depth fresh front c.0 us i c.1 j (SpellsItems.group l r.l r.vs i c.1 r.added) c.3)
group_taken line m zero true i ((l, Close) ∷ ts) j us e = absurd cc
group_taken line m (suc depth) true i ((l, Close) ∷ ts) j us e = absurd cc
group_taken line m zero false i ((l, Close) ∷ ts) j us e =
    let p = ok_parts i j ts us e in
    record { vs = []; l = l; parts = ap (λ (x : Tokens). (l, Close) ∷ x) p.1; added = inr (refl, p.0) }
group_taken line m (suc depth) false i ((l, Close) ∷ ts) j us e = (
  ts,
  i,
  record { vs = []; l = l; parts = refl; added = inr (refl, refl) },
  group_taken line m depth false i ts j us e,
)
group_taken line m depth fresh i ((l, Semicolon) ∷ ts) j us e = absurd cc
group_taken line m depth fresh i ((l, Comma) ∷ ts) j us e = absurd cc
group_taken line m depth fresh i ((l, Colon) ∷ ts) j us e = absurd cc
group_taken line m depth fresh i ((l, Tilde) ∷ ts) j us e = absurd cc
group_taken line m depth fresh i ((l, Other) ∷ ts) j us e = absurd cc

-- What was taken from the front, and how it is spelled.
abbrev Taken : (Tokens → Type 0) → Tokens → Tokens → Type 0
Taken Spelled ts us = (vs : Tokens) × (ts ≡ vs ++ us) × Spelled vs

simple_taken : (line l : ℕ) (m : Bool) (k : TokenKind) (ts us : Tokens) (i : Items)
    → items_from line m k ts ≡ Ok (i, us)
    → Taken (λ vs. SpellsSimple m vs i) ((l, k) ∷ ts) us
unfolding items_from
simple_taken line l m (Word w) ts us i e =
    let b = went_well (with_word line m no_items w) (λ n. Ok (n, ts)) (i, us) e in
    let p = ok_parts b.0 i ts us b.2 in (
      (l, Word w) ∷ [],
      ap (λ (x : Tokens). (l, Word w) ∷ x) p.1,
      elim (word_cases line m no_items b.0 w b.1) [
        | inl h ↦ subst (λ (x : Items). SpellsSimple m ((l, Word w) ∷ []) x) (sym h.2 ∙ p.0)
            (SpellsSimple.own l w h.0 h.1)
        | inr h ↦ subst (λ (x : Items). SpellsSimple m ((l, Word w) ∷ []) x) (sym h.1 ∙ p.0) (SpellsSimple.name l w h.0)
      ],
    )
simple_taken line l m Open ts us i e =
    let r = group_taken line m 0 true no_items ts i us e in (
      (l, Open) ∷ (r.vs ++ (r.l, Close) ∷ []),
      ap (λ (x : Tokens). (l, Open) ∷ x) (r.parts ∙ sym (append_assoc r.vs ((r.l, Close) ∷ []) us)),
      SpellsSimple.group l r.l r.vs i r.added,
    )
simple_taken line l m Semicolon ts us i e = absurd cc
simple_taken line l m Comma ts us i e = absurd cc
simple_taken line l m Colon ts us i e = absurd cc
simple_taken line l m Close ts us i e = absurd cc
simple_taken line l m Star ts us i e = absurd cc
simple_taken line l m Tilde ts us i e = absurd cc
simple_taken line l m Dash ts us i e = absurd cc
simple_taken line l m Other ts us i e = absurd cc

abbrev as_set : ℕ → Items × Tokens → Read (Set × Bool)
as_set line r = Ok (set_of line false r.0, r.1)

-- A set that is neither `*` nor a complement.
simple_set : (line l : ℕ) (m : Bool) (k : TokenKind) (ts us : Tokens) (s : Set × Bool)
    → (items_from line m k ts >>= as_set line) ≡ Ok (s, us) → Taken (λ vs. SpellsSet line m vs s) ((l, k) ∷ ts) us
simple_set line l m k ts us s e =
    let b = went_well (items_from line m k ts) (λ r. Ok (set_of line false r.0, r.1)) (s, us) e in
    let p = ok_parts (set_of line false b.0.0) s b.0.1 us b.2 in
    let t = simple_taken line l m k ts b.0.1 b.0.0 b.1 in (
      t.0,
      t.1 ∙ ap (λ (x : Tokens). t.0 ++ x) p.1,
      subst (λ (x : Set × Bool). SpellsSet line m t.0 x) p.0 (SpellsSet.simple t.0 b.0.0 t.2),
    )

pub set_taken : (line : ℕ) (m : Bool) (ts us : Tokens) (s : Set × Bool) → set_at line m ts ≡ Ok (s, us)
    → Taken (λ vs. SpellsSet line m vs s) ts us
unfolding set_at set_from kind_at
set_taken line m [] us s e = absurd cc
set_taken line m ((l, Star) ∷ ts) us s e =
    let p = ok_parts (set_of line false (record no_items { all = true })) s ts us e in (
      (l, Star) ∷ [],
      ap (λ (x : Tokens). (l, Star) ∷ x) p.1,
      subst (λ (x : Set × Bool). SpellsSet line m ((l, Star) ∷ []) x) p.0 (SpellsSet.all l),
    )
set_taken line m ((l, Tilde) ∷ []) us s e = absurd cc
set_taken line m ((l, Tilde) ∷ (n, k) ∷ ts) us s e =
    let b = went_well (items_from line false k ts) (λ r. Ok (set_of line true r.0, r.1)) (s, us) e in
    let p = ok_parts (set_of line true b.0.0) s b.0.1 us b.2 in
    let t = simple_taken line n false k ts b.0.1 b.0.0 b.1 in (
      (l, Tilde) ∷ t.0,
      ap (λ (x : Tokens). (l, Tilde) ∷ x) (t.1 ∙ ap (λ (x : Tokens). t.0 ++ x) p.1),
      subst (λ (x : Set × Bool). SpellsSet line m ((l, Tilde) ∷ t.0) x) p.0 (SpellsSet.complement l t.0 b.0.0 t.2),
    )
set_taken line m ((l, Word w) ∷ ts) us s e = simple_set line l m (Word w) ts us s e
set_taken line m ((l, Open) ∷ ts) us s e = simple_set line l m Open ts us s e
set_taken line m ((l, Semicolon) ∷ ts) us s e = simple_set line l m Semicolon ts us s e
set_taken line m ((l, Comma) ∷ ts) us s e = simple_set line l m Comma ts us s e
set_taken line m ((l, Colon) ∷ ts) us s e = simple_set line l m Colon ts us s e
set_taken line m ((l, Close) ∷ ts) us s e = simple_set line l m Close ts us s e
set_taken line m ((l, Dash) ∷ ts) us s e = simple_set line l m Dash ts us s e
set_taken line m ((l, Other) ∷ ts) us s e = simple_set line l m Other ts us s e

simple_some : (m : Bool) (i : Items) → SpellsSimple m [] i → ⊥
simple_some m i s = elim s [ ]

-- A set that begins with neither `*` nor `~`.
plain : (line l : ℕ) (m : Bool) (k : TokenKind) (vs us : Tokens) (i : Items) → SpellsSimple m ((l, k) ∷ vs) i
    → set_at line m (((l, k) ∷ vs) ++ us) ≡ Ok (set_of line false i, us)
unfolding set_at set_from kind_at
plain line l m (Word w) vs us i s = rw (simple_again line l m (Word w) (vs ++ us) ((l, Word w) ∷ vs) us i s refl) refl
plain line l m Open vs us i s = rw (simple_again line l m Open (vs ++ us) ((l, Open) ∷ vs) us i s refl) refl
plain line l m Semicolon vs us i s = elim s [ ]
plain line l m Comma vs us i s = elim s [ ]
plain line l m Colon vs us i s = elim s [ ]
plain line l m Close vs us i s = elim s [ ]
plain line l m Star vs us i s = elim s [ ]
plain line l m Tilde vs us i s = elim s [ ]
plain line l m Dash vs us i s = elim s [ ]
plain line l m Other vs us i s = elim s [ ]

pub set_again : (line : ℕ) (m : Bool) (vs us : Tokens) (s : Set × Bool) → SpellsSet line m vs s
    → set_at line m (vs ++ us) ≡ Ok (s, us)
unfolding set_at set_from kind_at
set_again line m _ us _ (SpellsSet.all l) = refl
set_again line m _ us _ (SpellsSet.complement l [] i s) = absurd (simple_some false i s)
set_again line m _ us _ (SpellsSet.complement l ((n, k) ∷ vs) i s) =
    rw (simple_again line n false k (vs ++ us) ((n, k) ∷ vs) us i s refl) refl
set_again line m _ us _ (SpellsSet.simple [] i s) = absurd (simple_some m i s)
set_again line m _ us _ (SpellsSet.simple ((l, k) ∷ vs) i s) = plain line l m k vs us i s

pub rule_again : (line : ℕ) (ts us : Tokens) (l : ℕ) (r : Rule) → SpellsRule line ts r
    → rule_at line (ts ++ (l, Semicolon) ∷ us) ≡ Ok (r, us)
unfolding rule_at colon_at semicolon_at
rule_again line _ us l _ (SpellsRule.rule n a b c d source target class perm s t u v) =
    let regrouped : (a ++ (b ++ ((n, Colon) ∷ (c ++ d)))) ++ (l, Semicolon) ∷ us ≡ a
    ++ (b ++ ((n, Colon) ∷ (c ++ (d ++ (l, Semicolon) ∷ us)))) = simp append_assoc in
    ap (rule_at line) regrouped ∙ rw (
      set_again line false a (b ++ ((n, Colon) ∷ (c ++ (d ++ (l, Semicolon) ∷ us)))) source s,
      set_again line true b ((n, Colon) ∷ (c ++ (d ++ (l, Semicolon) ∷ us))) target t,
      set_again line false c (d ++ (l, Semicolon) ∷ us) class u,
      set_again line false d ((l, Semicolon) ∷ us) perm v,
    ) refl
