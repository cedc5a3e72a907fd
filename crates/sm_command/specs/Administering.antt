-- The lines of an administrator's requests to a server, and of its answers.
use Rattle.std.specs.Prelude.{ℕ, List, [], ◌∷◌, ◌++◌, Bool, ◌&&◌, ◌||◌, not, ◌==◌, ◌-◌, codes, length, take, drop}
use Rattle.std.specs.Prelude.{if◌then◌else◌, Option, None, option_map}
use Rattle.std.specs.List.{count_by, ends_with, list_any, position, starts_with}
use Rattle.sm_values.specs.Messages.{numbered}

-- This is `explain SOURCE TARGET CLASS PERM`.
abbrev pub explain_line : List ℕ → List ℕ → List ℕ → List ℕ → List ℕ
explain_line source target class perm = codes "explain "
    ++ source ++ codes " " ++ target ++ codes " " ++ class ++ codes " " ++ perm ++ codes "\n"

-- This is `reload VERSION R C`, and then the two texts, of R and C bytes.
abbrev pub reload_request : List ℕ → List ℕ → List ℕ → List ℕ
reload_request version rules contexts =
    codes "reload " ++ version ++ numbered (codes " ") (length rules) ++ numbered (codes " ") (length contexts)
    ++ codes "\n" ++ rules ++ contexts

-- An answer begins with these bytes.
abbrev pub begins : List ℕ → List ℕ → Bool
begins answer front = starts_with ◌==◌ answer front

-- These are the bytes before the first space, if there is one.
abbrev pub first_word : List ℕ → Option (List ℕ)
first_word rest = option_map (λ n. take n rest) (position (λ byte. byte == 32) rest)

-- This is VERSION of the answer `version VERSION LENGTH`. Another answer has none.
abbrev pub version_in : List ℕ → Option (List ℕ)
version_in answer = if begins answer (codes "version ") then first_word (drop 8 answer) else None

-- The answers that grant a request begin with one of these.
abbrev pub granted : List (List ℕ)
granted = codes "version " ∷ codes "reloaded " ∷ codes "allowed " ∷ codes "unwritten " ∷ codes "denials "
    ∷ codes "sealed " ∷ codes "empty\n" ∷ []

-- An answer grants the request.
abbrev pub is_granted : List ℕ → Bool
is_granted answer = list_any (begins answer) granted

-- This is `denials N` of an answer with N further lines.
abbrev pub counted_denials : List ℕ → List ℕ
counted_denials answer = numbered (codes "denials ") (count_by (λ byte. byte == 10) answer - 1) ++ codes "\n"

-- An answer came to its end: its last line is whole, and after `denials N` there are N lines.
abbrev pub is_whole : List ℕ → Bool
is_whole answer = ends_with ◌==◌ answer (codes "\n")
    && (not (begins answer (codes "denials ")) || begins answer (counted_denials answer))
