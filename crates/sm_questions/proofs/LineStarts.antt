-- The places where lines begin, one after the other.
use Rattle.std.proofs.Common.{inl, inr, ◌≡◌, ℕ, ◌+◌, ◌-◌, ◌<◌, ◌≤◌, List, [], ◌∷◌, ◌++◌, length, drop, get_or, refl}
use Rattle.std.proofs.Common.{sym, ap, ◌∙◌, arith, length-append}
use Rattle.std.specs.List.{prefix_len}
use Rattle.std.proofs.lemmas.Bool.{cases_lt}
use Rattle.std.proofs.lemmas.List.{get_or_append_left, get_or-append_right, drop-drop, drop_all}
use Rattle.sm_values.specs.Lines.{is_in_line}
use Rattle.sm_contexts.specs.Lines.{lines}
use Rattle.sm_contexts.proofs.Cuts.{first_line}

-- The starts of the lines before a place.
pub record StartsBefore (text starts : List ℕ) (at : ℕ) : Type 0 where
  pub within : (k : ℕ) → k < length starts → get_or starts k 0 ≤ length text
  pub from : (k : ℕ) → k < length starts → lines (drop (get_or starts k 0) text) ≡ drop k (lines text)
  pub rest : lines (drop at text) ≡ drop (length starts) (lines text)

pub starts_none : (text : List ℕ) → StartsBefore text [] 0
starts_none text = record {
  within = λ k h. absurd (omega arith);
  from = λ k h. absurd (omega arith);
  rest = refl;
}

-- Behind its first line a text has one line less.
next_line : (bytes : List ℕ) → 0 < length bytes
    → lines (drop (prefix_len is_in_line bytes + 1) bytes) ≡ drop 1 (lines bytes)
next_line bytes some = sym (ap (λ (ls : List (List ℕ)). drop 1 ls) (first_line bytes some))

pub starts_more : (text starts new : List ℕ) (at next : ℕ) → new ≡ starts ++ at ∷ [] → at < length text
    → next ≡ at + (prefix_len is_in_line (drop at text) + 1) → 0 < length (drop at text)
    → StartsBefore text starts at → StartsBefore text new next
starts_more text starts new at next is inside step some s = rw (is, step) (record {
  within = λ k h. elim (cases_lt k (length starts)) [
    | inl old ↦ rw (get_or_append_left starts (at ∷ []) 0 k old) (s.within k old)
    | inr end ↦ (let e : k - length starts ≡ 0 = omega (arith, length-append starts (at ∷ []), h) in
        rw (get_or-append_right starts (at ∷ []) (length starts) k 0 refl end, e) (omega arith))
  ];
  from = λ k h. elim (cases_lt k (length starts)) [
    | inl old ↦ rw (get_or_append_left starts (at ∷ []) 0 k old) (s.from k old)
    | inr end ↦ (let same : k ≡ length starts = omega (arith, length-append starts (at ∷ []), h) in
        let e : k - length starts ≡ 0 = omega arith in
        rw (get_or-append_right starts (at ∷ []) (length starts) k 0 refl end, e, same) s.rest)
  ];
  rest = ap (λ (bytes : List ℕ). lines bytes) (sym (drop-drop (prefix_len is_in_line (drop at text) + 1) at text))
      ∙ next_line (drop at text) some ∙ ap (λ (ls : List (List ℕ)). drop 1 ls) s.rest
      ∙ drop-drop 1 (length starts) (lines text)
      ∙ ap (λ (n : ℕ). drop n (lines text)) (sym (length-append starts (at ∷ [])));
})

-- Behind its end a text has no line.
pub no_lines : (text : List ℕ) (at : ℕ) → length text ≤ at → lines (drop at text) ≡ []
unfolding lines
no_lines text at le = rw (drop_all at text le) refl
