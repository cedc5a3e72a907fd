-- The tokens behind blanks, comments and a token.
use Rattle.std.proofs.Common.{◌≡◌, ℕ, zero, suc, ◌+◌, ◌≤◌, true, false, ◌||◌, cond, eqb, List, [], ◌∷◌, length}
use Rattle.std.proofs.Common.{get_or, drop, ◌<◌, refl, ap, sym, arith}
use Rattle.std.specs.List.{prefix_len}
use Rattle.sm_values.specs.Lines.{is_blank, is_in_line}
use Rattle.sm_ruletext.specs.Lexing.{Tokens, tokens, kind_at, len_after, IsAtToken}
use Rattle.std.proofs.lemmas.Bool.{not-true, or_parts, ne_eqb}
use Rattle.sm_ruletext.specs.declared.token.TokenKind.{TokenKind}

pub tokens-drop : (skip line : ℕ) (bytes : List ℕ) → tokens skip line bytes ≡ tokens 0 line (drop skip bytes)
unfolding tokens
tokens-drop zero line bytes = refl
tokens-drop (suc skip) line [] = refl
tokens-drop (suc skip) line (b ∷ bytes) = tokens-drop skip line bytes

pub tokens-newline : (line : ℕ) (bytes : List ℕ) → tokens 0 line (10 ∷ bytes) ≡ tokens 0 (line + 1) bytes
unfolding tokens
tokens-newline line bytes = refl

pub tokens-blank : (line b : ℕ) (bytes : List ℕ) → eqb b 10 ≡ false → is_blank b ≡ true
    → tokens 0 line (b ∷ bytes) ≡ tokens 0 line bytes
unfolding tokens
tokens-blank line b bytes e f = rw (e, f) refl

pub tokens-comment : (line : ℕ) (bytes : List ℕ)
    → tokens 0 line (35 ∷ bytes) ≡ tokens 0 line (drop (prefix_len is_in_line bytes) bytes)
unfolding tokens
tokens-comment line bytes = tokens-drop (prefix_len is_in_line bytes) line bytes

-- A token and what is left.
pub tokens-token : (line b : ℕ) (bytes : List ℕ) → eqb b 10 ≡ false → is_blank b ≡ false → eqb b 35 ≡ false
    → tokens 0 line (b ∷ bytes) ≡ (line, kind_at b bytes) ∷ tokens 0 line (drop (len_after b bytes) bytes)
unfolding tokens
tokens-token line b bytes e f g =
    rw (e, f, g) (ap (λ (ts : Tokens). (line, kind_at b bytes) ∷ ts) (tokens-drop (len_after b bytes) line bytes))

pub length-tokens : (skip line : ℕ) (bytes : List ℕ) → length (tokens skip line bytes) ≤ length bytes
unfolding tokens
length-tokens skip line [] = omega arith
length-tokens (suc skip) line (b ∷ bytes) = omega (arith, length-tokens skip line bytes)
length-tokens zero line (b ∷ bytes) =
    elim (eqb b 10) as (λ t. length
    (cond t (tokens zero (line + 1) bytes)
    (cond (is_blank b) (tokens zero line bytes)
    (cond (eqb b 35) (tokens (prefix_len is_in_line bytes) line bytes)
    ((line, kind_at b bytes) ∷ tokens (len_after b bytes) line bytes)))) ≤ length (b ∷ bytes)) [
      | true ↦ omega (arith, length-tokens zero (line + 1) bytes)
      | false ↦ elim (is_blank b) as (λ t.
          length (cond t (tokens zero line bytes)
          (cond (eqb b 35) (tokens (prefix_len is_in_line bytes) line bytes)
          ((line, kind_at b bytes) ∷ tokens (len_after b bytes) line bytes))) ≤ length (b ∷ bytes)) [
            | true ↦ omega (arith, length-tokens zero line bytes)
            | false ↦ elim (eqb b 35) as (λ t.
                length (cond t (tokens (prefix_len is_in_line bytes) line bytes)
                ((line, kind_at b bytes) ∷ tokens (len_after b bytes) line bytes)) ≤ length (b ∷ bytes)) [
                  | true ↦ omega (arith, length-tokens (prefix_len is_in_line bytes) line bytes)
                  | false ↦ omega (arith, length-tokens (len_after b bytes) line bytes)
                ]
          ]
    ]

pub takes : (line len : ℕ) (kind : TokenKind) (bytes : List ℕ) → IsAtToken bytes → 0 < length bytes
    → kind ≡ kind_at (get_or bytes 0 0) (drop 1 bytes) → len ≡ 1 + len_after (get_or bytes 0 0) (drop 1 bytes)
    → tokens 0 line bytes ≡ (line, kind) ∷ tokens 0 line (drop len bytes)
takes line len kind [] at some kind-is len-is = absurd (omega arith)
takes line len kind (b ∷ bytes) at some kind-is len-is =
    let t = not-true (eqb b 10 || (is_blank b || eqb b 35)) at in
    let p = or_parts (eqb b 10) (is_blank b || eqb b 35) t in
    let q = or_parts (is_blank b) (eqb b 35) p.1 in
    let e : len ≡ suc (len_after b bytes) = omega (arith, len-is) in
    rw (e, kind-is) (tokens-token line b bytes p.0 q.0 q.1)

-- The turns of the loop over blanks.
pub turn_newline : (line : ℕ) (bytes : List ℕ) → 0 < length bytes → get_or bytes 0 0 ≡ 10
    → tokens 0 (line + 1) (drop 1 bytes) ≡ tokens 0 line bytes
turn_newline line [] some e = absurd (omega arith)
turn_newline line (b ∷ bytes) some e = rw e (sym (tokens-newline line bytes))

pub turn_blank : (line : ℕ) (bytes : List ℕ) → 0 < length bytes → (get_or bytes 0 0 ≡ 10 → ⊥)
    → is_blank (get_or bytes 0 0) ≡ true → tokens 0 line (drop 1 bytes) ≡ tokens 0 line bytes
turn_blank line [] some e f = absurd (omega arith)
turn_blank line (b ∷ bytes) some e f = sym (tokens-blank line b bytes (ne_eqb b 10 e) f)

pub turn_comment : (line : ℕ) (bytes : List ℕ) → 0 < length bytes → get_or bytes 0 0 ≡ 35
    → tokens 0 line (drop (prefix_len is_in_line (drop 1 bytes)) (drop 1 bytes)) ≡ tokens 0 line bytes
turn_comment line [] some e = absurd (omega arith)
turn_comment line (b ∷ bytes) some e = rw e (sym (tokens-comment line bytes))

pub nothing_left : (line : ℕ) (bytes : List ℕ) → length bytes ≡ 0 → tokens 0 line bytes ≡ []
unfolding tokens
nothing_left line [] e = refl
nothing_left line (b ∷ bytes) e = absurd (omega arith)
