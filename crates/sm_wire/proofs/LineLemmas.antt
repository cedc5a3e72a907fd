-- Lines of a table, if the first field isn't the word of one of them.
use Rattle.std.proofs.Common.{◌≡◌, ℕ, List, [], ◌∷◌, Option, None, false, refl, ap, ◌∙◌, codes, if◌then◌else◌}
use Rattle.std.specs.Str.{bytes_eq}
use Rattle.sm_values.specs.declared.number.ClientId.{ClientId}
use Rattle.sm_wire.specs.LineTable.{Production, get_line, check_line, list_line, version_line, call_line}
use Rattle.sm_wire.specs.LineTable.{release_line, take_line, add_line, hello_line, client_lines, rare_lines}
use Rattle.sm_wire.specs.LineTable.{connection_lines}
use Rattle.sm_wire.specs.Grammar.{line_of, lines_of}
use Rattle.sm_wire.specs.Fields.{first_is}

no_fields : (ps qs : List Production) → lines_of ps [] ≡ lines_of qs []
unfolding lines_of
no_fields [] [] = refl
no_fields [] (q ∷ qs) = refl
no_fields (p ∷ ps) [] = refl
no_fields (p ∷ ps) (q ∷ qs) = refl

-- A line with another word is left out.
pub line_left : (p : Production) (ps : List Production) (fields : List (List ℕ)) → first_is p.word fields ≡ false
    → lines_of (p ∷ ps) fields ≡ lines_of ps fields
unfolding lines_of
line_left p ps [] other = no_fields (p ∷ ps) ps
line_left p ps (word ∷ ts) other = rw other refl

line_kept : (p : Production) (ps qs : List Production) (fields : List (List ℕ))
    → lines_of ps fields ≡ lines_of qs fields → lines_of (p ∷ ps) fields ≡ lines_of (p ∷ qs) fields
unfolding lines_of
line_kept p ps qs [] same = no_fields (p ∷ ps) (p ∷ qs)
line_kept p ps qs (word ∷ ts) same =
    ap (λ (o : Option _). if bytes_eq word p.word then line_of p ts else o) same

-- The lines that come less often are left, if the word is none of the others.
pub rare_lines_left : (who : Option ClientId) (fields : List (List ℕ)) → first_is (codes "get") fields ≡ false
    → first_is (codes "version") fields ≡ false → first_is (codes "take") fields ≡ false
    → first_is (codes "call") fields ≡ false → first_is (codes "release") fields ≡ false
    → first_is (codes "add") fields ≡ false
    → lines_of (client_lines who) fields ≡ lines_of (rare_lines who) fields
rare_lines_left who fields get version take call release add =
    line_left (get_line who) _ fields get ∙ line_kept (check_line who) _ _ fields (line_kept (list_line who) _ _ fields
    (line_left (version_line who) _ fields version ∙ line_left (call_line who) _ fields call
    ∙ line_left (release_line who) _ fields release ∙ line_left (take_line who) _ fields take
    ∙ line_left (add_line who) _ fields add))

-- The lines of a client are left, if the word isn't `hello`.
pub client_lines_left : (fields : List (List ℕ)) → first_is (codes "hello") fields ≡ false
    → lines_of connection_lines fields ≡ lines_of (client_lines None) fields
client_lines_left fields hello = line_left hello_line (client_lines None) fields hello
