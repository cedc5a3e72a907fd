-- Lines that are written in two parts.
use Rattle.std.proofs.Common.{◌≡◌, ◌≤◌, ◌-◌, ◌++◌, ℕ, List, [], IsTrue, drop, length, nat_eq, take, append_assoc}
use Rattle.std.proofs.Common.{arith, length-drop, sym, ◌∙◌, ap}
use Rattle.std.proofs.lemmas.Bool.Decides.{nat_tests}
use Rattle.std.proofs.lemmas.List.{append-nil, drop_all, take_all, take-take, take-append-drop}

-- Nothing is left of the first text, of which n bytes were written.
pub all_written : (rest : List ℕ) (n : ℕ) → drop n rest ≡ [] → take n rest ≡ rest
all_written rest n e = sym (append-nil (take n rest)) ∙ ap (λ l. take n rest ++ l) (sym e) ∙ take-append-drop n rest

-- Then m bytes of the second text were written, and up to `end` are to be.
pub whole_lines : (rest text : List ℕ) (n m end : ℕ) → drop n rest ≡ [] → m ≤ end
    → (take n rest ++ take m text) ++ drop m (take end text) ≡ rest ++ take end text
whole_lines rest text n m end e le = append_assoc (take n rest) (take m text) (drop m (take end text))
    ∙ ap (λ l. l ++ (take m text ++ drop m (take end text))) (all_written rest n e)
    ∙ ap (λ l. rest ++ (l ++ drop m (take end text))) (sym (take-take m end text le))
    ∙ ap (λ l. rest ++ l) (take-append-drop m (take end text))

-- A text that had been cut is cut again, after n more bytes.
pub cut_again : (rest text left : List ℕ) (n : ℕ) → left ≡ drop n rest → take n rest ++ left ≡ rest ++ take 0 text
cut_again rest text left n e = ap (λ l. take n rest ++ l) e ∙ take-append-drop n rest ∙ sym (append-nil rest)

-- Nothing is left of a text exactly if all of its bytes are written.
pub nothing_left : (cut : List ℕ) (at len : ℕ) → len ≡ length cut → at ≤ length cut
    → (IsTrue (nat_eq at len) → drop at cut ≡ []) × (drop at cut ≡ [] → IsTrue (nat_eq at len))
nothing_left cut at len e le = (
  λ t. drop_all at cut (grind (arith, nat_tests)),
  λ d. let none : length cut - at ≡ 0 = sym (length-drop at cut) ∙ ap length d in grind (arith, nat_tests),
)

-- The text from `at` on, as a range of it.
pub rest_of_text : (text now : List ℕ) (at : ℕ) → now ≡ text → take (length now - at) (drop at now) ≡ drop at text
rest_of_text text now at e = rw e (take_all (length text - at) (drop at text) (omega (arith, length-drop at text)))
