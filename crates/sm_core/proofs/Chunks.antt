-- Entries in chunks.
use Rattle.std.proofs.Common.{◌≡◌, ℕ, ◌+◌, List, [], ◌∷◌, ◌++◌, ap, sym, ◌∙◌, length, append_assoc, append-nil}
use Rattle.std.specs.Prelude.{reverse}
use Rattle.std.proofs.lemmas.List.{reverse-append, length-append}
use Rattle.sm_history.specs.declared.entry.Entry.{Entry}
use Rattle.sm_history.specs.Histories.{entered}
use Rattle.sm_history.specs.Openings.{Opening}
use Rattle.sm_history.specs.Segments.{joined}
use Rattle.sm_core.specs.Journals.{journal_segment}

pub joined_more : (cs : List (List Entry)) (c : List Entry) → joined (cs ++ c ∷ []) ≡ joined cs ++ c
joined_more [] c = append-nil c
joined_more (x ∷ cs) c = ap (λ (l : List Entry). x ++ l) (joined_more cs c) ∙ sym (append_assoc x (joined cs) c)

-- The last chunk goes behind the full ones.
pub moved_on : (cs : List (List Entry)) (c : List Entry) → joined (cs ++ c ∷ []) ++ [] ≡ joined cs ++ c
moved_on cs c = append-nil (joined (cs ++ c ∷ [])) ∙ joined_more cs c

pub pushed : (xs ys : List Entry) (e : Entry) → xs ++ (ys ++ e ∷ []) ≡ (xs ++ ys) ++ e ∷ []
pushed xs ys e = sym (append_assoc xs ys (e ∷ []))

pub written_more : (number : ℕ) (o : Opening) (xs ys : List Entry) (e : Entry)
    → journal_segment number o (reverse (xs ++ (ys ++ e ∷ [])))
    ≡ entered e (journal_segment number o (reverse (xs ++ ys)))
written_more number o xs ys e = ap (λ (l : List Entry). journal_segment number o (reverse l)) (pushed xs ys e) ∙
    ap (λ (l : List Entry). journal_segment number o l) (reverse-append (xs ++ ys) (e ∷ []))

pub length_more : (xs ys : List Entry) (e : Entry) → length (xs ++ (ys ++ e ∷ [])) ≡ length (xs ++ ys) + 1
length_more xs ys e = ap (length {A = Entry}) (pushed xs ys e) ∙ length-append (xs ++ ys) (e ∷ [])

-- The full ones with the last behind them, and an empty one for what comes.
pub moved : (full reserved full' : List (List Entry)) (last chunk fresh : List Entry) → reserved ≡ full
    → full' ≡ reserved ++ chunk ∷ [] → chunk ≡ last → fresh ≡ []
    → joined full' ++ fresh ≡ joined full ++ last
moved full reserved full' last chunk fresh same pushed is none =
    ap (λ (l : List Entry). joined full' ++ l) none ∙ ap (λ (cs : List (List Entry)). joined cs ++ []) pushed
    ∙ moved_on reserved chunk ∙ ap (λ (cs : List (List Entry)). joined cs ++ chunk) same ∙
    ap (λ (l : List Entry). joined full ++ l) is
