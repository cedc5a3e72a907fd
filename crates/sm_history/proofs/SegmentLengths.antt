-- The chunks of a segment, and its length.
use Rattle.std.proofs.Common.{◌≡◌, ℕ, ◌+◌, ◌<◌, ◌≤◌, List, [], ◌∷◌, ◌++◌, refl, ap, sym, ◌∙◌, length, take, drop, get_or}
use Rattle.std.proofs.Common.{arith, append_assoc}
use Rattle.std.specs.Prelude.{reverse}
use Rattle.std.proofs.lemmas.List.{append-nil, length-append, length-reverse, take-append-drop, take_more}
use Rattle.sm_history.specs.declared.limits.TheConstants.{GREATEST}
use Rattle.sm_history.specs.declared.entry.Entry.{Entry}
use Rattle.sm_history.specs.Openings.{Opening}
use Rattle.sm_history.specs.Histories.{length_of}
use Rattle.sm_history.specs.Segments.{joined, segment}
use Rattle.sm_history.specs.Lawful.{IsLawful}
use Rattle.sm_history.proofs.NumbersFit.{numbers_fit}

pub take_item : {X : Type 0} (xs : List X) (i : ℕ) (x : X) → i < length xs → x ≡ get_or xs i x
    → take (i + 1) xs ≡ take i xs ++ x ∷ []
take_item xs i x lt is = take_more xs i x lt ∙ ap (λ v. take i xs ++ v ∷ []) (sym is)

pub first_part : (a b g : ℕ) → a + b < g → a < g
first_part a b g lt = omega (arith, lt)

-- ---- chunks in order

pub joined_more : (cs : List (List Entry)) (c : List Entry) → joined (cs ++ c ∷ []) ≡ joined cs ++ c
joined_more [] c = append-nil c
joined_more (x ∷ cs) c = ap (λ (l : List Entry). x ++ l) (joined_more cs c) ∙ sym (append_assoc x (joined cs) c)

joined_both : (cs ds : List (List Entry)) → joined (cs ++ ds) ≡ joined cs ++ joined ds
joined_both [] ds = refl
joined_both (c ∷ cs) ds = ap (λ (l : List Entry). c ++ l) (joined_both cs ds)
    ∙ sym (append_assoc c (joined cs) (joined ds))

-- All entries, at a chunk.
pub at_chunk : (cs : List (List Entry)) (c rest : List Entry) (i : ℕ) → i < length cs → c ≡ get_or cs i c
    → joined cs ++ rest ≡ joined (take i cs) ++ (c ++ (joined (drop (i + 1) cs) ++ rest))
at_chunk cs c rest i lt is =
    let xs = joined (take i cs) in
    let ys = joined (drop (i + 1) cs) in
    ap (λ (l : List Entry). l ++ rest)
    (ap (λ (l : List (List Entry)). joined l) (sym (take-append-drop (i + 1) cs))
    ∙ joined_both (take (i + 1) cs) (drop (i + 1) cs)
    ∙ ap (λ (l : List Entry). l ++ ys) (ap (λ (l : List (List Entry)). joined l) (take_item cs i c lt is)
    ∙ joined_more (take i cs) c))
    ∙ append_assoc (xs ++ c) ys rest ∙ append_assoc xs c (ys ++ rest)

-- The length of a lawful history is a number.
pub length_fits : (places number : ℕ) (o : Opening) (cs : List (List Entry)) (es : List Entry) (a b k : ℕ)
    → IsLawful places (segment number o (joined cs ++ es))
    → a ≡ o.length → b ≡ length (joined cs) → k ≡ length es → a + b + k < GREATEST
length_fits places number o cs es a b k l first second third =
    let all = joined cs ++ es in
    let small = first_part (length_of (segment number o all)) _ GREATEST
    (numbers_fit places (segment number o all) l).lengths in
    let more = length-append (joined cs) es in
    let back = length-reverse all in
    omega (arith, first, second, third, more, back, small)

pub counted_more : (cs : List (List Entry)) (c : List Entry) (i : ℕ) → i < length cs → c ≡ get_or cs i c
    → length (joined (take (i + 1) cs)) ≡ length (joined (take i cs)) + length c
counted_more cs c i lt is =
    ap (length {A = Entry}) (ap (λ (v : List (List Entry)). joined v) (take_item cs i c lt is)
    ∙ joined_more (take i cs) c)
    ∙ length-append (joined (take i cs)) c

pub counted_below : (cs : List (List Entry)) (c : List Entry) (i : ℕ) → i < length cs → c ≡ get_or cs i c
    → length (joined (take i cs)) + length c ≤ length (joined cs)
counted_below cs c i lt is =
    let xs = joined (take i cs) in
    let ys = joined (drop (i + 1) cs) ++ [] in
    let all = ap (length {A = Entry}) (sym (append-nil (joined cs)) ∙ at_chunk cs c [] i lt is) in
    let a = length-append xs (c ++ ys) in
    let b = length-append c ys in
    omega (arith, all, a, b)
