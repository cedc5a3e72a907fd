-- The first part of a line, and the rest.
use Rattle.std.proofs.Common.{◌≡◌, ℕ, suc, ◌+◌, ◌<◌, true, false, not, cond, List, [], ◌∷◌, ◌++◌, length, take}
use Rattle.std.proofs.Common.{drop, refl, sym, ◌∙◌, append_assoc, arith}
use Rattle.std.specs.List.{prefix_len}
use Rattle.std.proofs.lemmas.List.{append-nil}
use Rattle.sm_values.specs.Lines.{is_blank}
use Rattle.sm_contexts.specs.Lines.{is_solid, onto_first}
use Rattle.sm_suggestions.specs.LogWords.{is_word, parts, words}

pub first_part : (bytes : List ℕ) → 0 < length bytes
    → parts bytes ≡ take (prefix_len is_solid bytes) bytes ∷ parts (drop (prefix_len is_solid bytes + 1) bytes)
unfolding parts
first_part [] some = absurd (omega arith)
first_part (b ∷ []) some =
    elim (is_blank b) as (λ t. cond t ([] ∷ parts []) (onto_first b (parts [])) ≡ take (cond (not t) 1 0) (b ∷ [])
    ∷ parts (drop (cond (not t) 1 0 + 1) (b ∷ []))) [ true ↦ refl | false ↦ refl ]
first_part (b ∷ c ∷ bytes) some =
    let next = first_part (c ∷ bytes) (omega arith) in
    let m = prefix_len is_solid (c ∷ bytes) in
    elim (is_blank b) as (λ t. cond t ([] ∷ parts (c ∷ bytes)) (onto_first b (parts (c ∷ bytes)))
    ≡ take (cond (not t) (1 + m) 0) (b ∷ c ∷ bytes) ∷ parts (drop (cond (not t) (1 + m) 0 + 1) (b ∷ c ∷ bytes))) [
      | true ↦ refl
      | false ↦ go b (c ∷ bytes) m (parts (c ∷ bytes)) next
    ] where
      go : (b : ℕ) (bs : List ℕ) (m : ℕ) (ls : List (List ℕ)) → ls ≡ take m bs ∷ parts (drop (m + 1) bs)
          → onto_first b ls ≡ take (1 + m) (b ∷ bs) ∷ parts (drop (1 + m + 1) (b ∷ bs))
      go b bs m ls e =
          let one : 1 + m ≡ suc m = omega arith in
          let two : suc m + 1 ≡ suc (m + 1) = omega arith in
          rw (e, one, two) refl

-- The words of a line whose first part isn't empty.
pub word_more : (line : List ℕ) (read : List (List ℕ)) (part rest : List ℕ) → 0 < length line
    → part ≡ take (prefix_len is_solid line) line → rest ≡ drop (prefix_len is_solid line + 1) line
    → is_word part ≡ true → (read ++ part ∷ []) ++ words rest ≡ read ++ words line
unfolding words
word_more line read part rest some p r is =
    rw (first_part line some, ← p, ← r, is, append_assoc) refl

-- The words of a line whose first part is empty.
pub no_word_more : (line : List ℕ) (read : List (List ℕ)) (part rest : List ℕ) → 0 < length line
    → part ≡ take (prefix_len is_solid line) line → rest ≡ drop (prefix_len is_solid line + 1) line
    → is_word part ≡ false → read ++ words rest ≡ read ++ words line
unfolding words
no_word_more line read part rest some p r is = rw (first_part line some, ← p, ← r, is) refl

-- A line that is at its end has no more words.
pub words_end : (read : List (List ℕ)) (rest line : List ℕ) → length rest ≡ 0 → read ++ words rest ≡ words line
    → read ≡ words line
unfolding words parts
words_end read [] line none same = sym (append-nil read) ∙ same
words_end read (b ∷ rest) line none same = absurd (omega arith)
