-- The lines for unused rules.
use Rattle.std.proofs.Common.{◌≡◌, ◌&&◌, ◌++◌, ℕ, List, [], ◌∷◌, length, true, false, not, refl, sym, ap, arith}
use Rattle.std.specs.Prelude.{codes, nat_eq}
use Rattle.std.specs.List.{flat_map}
use Rattle.std.proofs.lemmas.Bool.{ne_eqb}
use Rattle.std.proofs.lemmas.Bool.Decides.{nat_tests}
use Rattle.sm_questions.specs.Differences.{is_any}
use Rattle.sm_questions.specs.Shown.{shown_statement}
use Rattle.sm_unused.specs.Unused.{found_lines, word_line}

some_line : (b : ℕ) (bytes : List ℕ) → is_any (b ∷ bytes) ≡ true
some_line b bytes = grind (arith, nat_tests)

some_rule : (n : ℕ) (rules : List ℕ) → nat_eq (length (n ∷ rules)) 0 ≡ false
some_rule n rules = ne_eqb (length (n ∷ rules)) 0 (λ e. omega (arith, e))

-- A line has at least the first byte of its word.
lines : (b c : ℕ) (v w path text allows dontaudits declared : List ℕ)
    → ((nat_eq (length allows) 0 && nat_eq (length dontaudits) 0) && nat_eq (length declared) 0)
    ≡ not (is_any (flat_map (word_line (b ∷ v) path text) allows ++ flat_map (word_line (c ∷ w) path text) dontaudits
    ++ declared))
lines b c v w path text [] [] [] = refl
lines b c v w path text [] [] (d ∷ declared) = rw (some_rule d declared) (sym (ap not (some_line d declared)))
lines b c v w path text [] (n ∷ dontaudits) declared = rw (some_rule n dontaudits) (sym (ap not (some_line c
    (((w ++ shown_statement path text n) ++ flat_map (word_line (c ∷ w) path text) dontaudits) ++ declared))))
lines b c v w path text (n ∷ allows) dontaudits declared = rw (some_rule n allows) (sym (ap not (some_line b
    (((v ++ shown_statement path text n) ++ flat_map (word_line (b ∷ v) path text) allows)
    ++ flat_map (word_line (c ∷ w) path text) dontaudits ++ declared))))

-- There is no line if nothing was found.
pub no_lines : (path text allows dontaudits declared : List ℕ)
    → ((nat_eq (length allows) 0 && nat_eq (length dontaudits) 0) && nat_eq (length declared) 0)
    ≡ not (is_any (found_lines path text allows dontaudits declared))
no_lines path text allows dontaudits declared =
    lines 114 100 (codes "ule ") (codes "ontaudit ") path text allows dontaudits declared
