-- The tokens of a source, each with the line that it begins in.
use Rattle.std.specs.Prelude.{ℕ, zero, suc, ◌+◌, Bool, false, not, ◌&&◌, ◌||◌, ◌==◌, if◌then◌else◌, List, [], ◌∷◌}
use Rattle.std.specs.Prelude.{take, slice_index, IsTrue}
use Rattle.std.specs.List.{prefix_len, list_all}
use Rattle.std.specs.Char.{is_ascii_alphabetic, is_ascii_alphanumeric}
use Rattle.sm_values.specs.Lines.{is_blank, is_in_line}
use Rattle.sm_ruletext.specs.declared.token.TokenKind.{TokenKind}
use Rattle.sm_ruletext.specs.declared.token.TokenKind.TheVariants.{Word, Semicolon, Comma, Colon, Open, Close, Star}
use Rattle.sm_ruletext.specs.declared.token.TokenKind.TheVariants.{Tilde}
use Rattle.sm_ruletext.specs.declared.token.TokenKind.TheVariants.{Dash, Other}

-- Tokens have the line that they begin in.
abbrev pub Tokens : Type 0
Tokens = List (ℕ × TokenKind)

-- A byte is a letter, a digit, `_`, `.` or `-`.
abbrev pub is_word_byte : ℕ → Bool
is_word_byte b = ((is_ascii_alphanumeric b || b == 95) || b == 46) || b == 45

-- The bytes are a letter, and then letters, digits, `_`, `.` or `-`.
unfoldable pub is_word : List ℕ → Bool
is_word [] = false
is_word (b ∷ bs) = is_ascii_alphabetic b && list_all is_word_byte bs

-- A byte is neither a double quote nor a newline.
abbrev pub is_quoted : ℕ → Bool
is_quoted b = not (b == 34 || b == 10)

-- This is the token of one byte.
abbrev pub mark : ℕ → TokenKind
mark b =
    if b == 59 then Semicolon
    else if b == 44 then Comma
    else if b == 58 then Colon
    else if b == 123 then Open
    else if b == 125 then Close
    else if b == 42 then Star
    else if b == 126 then Tilde
    else if b == 45 then Dash
    else Other

-- This is the number of bytes after a double quote up to the next one in the same line, or 0.
unfoldable pub quoted_len : List ℕ → ℕ
quoted_len bytes =
    if slice_index bytes (prefix_len is_quoted bytes) == 34 then prefix_len is_quoted bytes + 1 else 0

-- This is the token that begins with byte b.
unfoldable pub kind_at : ℕ → List ℕ → TokenKind
kind_at b bytes = if is_ascii_alphabetic b then Word (b ∷ take (prefix_len is_word_byte bytes) bytes) else mark b

-- This is the number of bytes after b that belong to that token.
unfoldable pub len_after : ℕ → List ℕ → ℕ
len_after b bytes =
    if is_ascii_alphabetic b then prefix_len is_word_byte bytes else if b == 34 then quoted_len bytes else 0

-- These are the tokens from a line on. The first `skip` bytes belong to an earlier token.
unfoldable pub tokens : ℕ → ℕ → List ℕ → Tokens
tokens skip line [] = []
tokens (suc skip) line (b ∷ bytes) = tokens skip line bytes
tokens zero line (b ∷ bytes) =
    if b == 10 then tokens zero (line + 1) bytes
    else if is_blank b then tokens zero line bytes
    else if b == 35 then tokens (prefix_len is_in_line bytes) line bytes
    else (line, kind_at b bytes) ∷ tokens (len_after b bytes) line bytes

-- The bytes are empty, or begin with a byte that begins a token.
abbrev pub IsAtToken : List ℕ → Type 0
IsAtToken [] = Unit {0}
IsAtToken (b ∷ bytes) = IsTrue (not (b == 10 || (is_blank b || b == 35)))
