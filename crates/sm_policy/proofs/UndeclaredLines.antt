-- The first entry with an undeclared type is on the first entry line with an undeclared type.
use Rattle.std.proofs.Common.{◌≡◌, ℕ, ◌+◌, Bool, true, not, if◌then◌else◌, List, [], ◌∷◌, ◌++◌}
use Rattle.std.proofs.Common.{Option, None, Some, Ok, is_some, sym, arith, ◌∙◌}
use Rattle.std.specs.Prelude.{find}
use Rattle.std.specs.List.{position_or_len}
use Rattle.std.specs.Option.{option_or}
use Rattle.std.proofs.lemmas.List.Folds.{find_at, find-append}
use Rattle.std.proofs.lemmas.Slice.Eq.{bytes_eq-Decides}
use Rattle.sm_values.specs.Contexts.{type_of}
use Rattle.sm_values.proofs.Readers.{went_well}
use Rattle.sm_ruletext.specs.declared.statement.Statement.{Statement}
use Rattle.sm_types.specs.Denoting.{declares}
use Rattle.sm_contexts.specs.Lines.{lines, first_word, after_word}
use Rattle.sm_contexts.specs.Reading.{Entry, has_key, with_entry, with_line, entries_from, read}
use Rattle.sm_matrices.proofs.Searches.{any_at}
use Rattle.sm_policy.specs.Preparing.{is_undeclared_line, undeclared_from}
use Rattle.sm_policy.specs.Undeclared.{first_undeclared, is_undeclared}
use Rattle.sm_policy.proofs.Finding.{is_some-find}

-- Line n, if its type isn't declared.
abbrev line_if : Bool → ℕ → Option ℕ
line_if undeclared n = if undeclared then Some n else None

module _ (sts : List Statement) where
  abbrev is_bad : List ℕ → Bool
  is_bad context = not (declares sts (type_of context))

  -- A new entry is the last.
  last : (e : Entry) (es : List Entry)
      → first_undeclared sts (es ++ e ∷ []) ≡ option_or (first_undeclared sts es) (line_if (is_bad e.context) e.line)
  last e es = grind (arith, find-append)

  -- A repeated line says nothing new.
  again : (n : ℕ) (key context : List ℕ) (es : List Entry) (e : Entry)
      → find (has_key key) es ≡ Some e → e.context ≡ context
      → first_undeclared sts es ≡ option_or (first_undeclared sts es) (line_if (is_bad context) n)
  again n key context es e there same =
      let some : is_bad context ≡ true → is_some (find (is_undeclared sts) es) ≡ true = λ bad.
      is_some-find (is_undeclared sts) es
      ∙ any_at (is_undeclared sts) es (position_or_len (has_key key) es) e (sym (find_at (has_key key) es) ∙ there)
      (rw same bad) in
      grind (arith, some)

  with_line_last : (n : ℕ) (entries more : List Entry) (line : List ℕ) → with_line n entries line ≡ Ok more
      → first_undeclared sts more
      ≡ option_or (first_undeclared sts entries) (line_if (is_undeclared_line sts line) n)
  unfolding with_line with_entry
  with_line_last n entries more line done =
      grind (arith, bytes_eq-Decides, again n (first_word line) (first_word (after_word line)) entries, last)

  lines_last : (n : ℕ) (entries all : List Entry) (ls : List (List ℕ)) → entries_from n entries ls ≡ Ok all
      → first_undeclared sts all ≡ option_or (first_undeclared sts entries) (undeclared_from sts n ls)
  unfolding entries_from
  lines_last n entries all [] done = grind arith
  lines_last n entries all (line ∷ more) done =
      let step = went_well (with_line n entries line) (λ e. entries_from (n + 1) e more) all done in
      grind (arith, with_line_last n entries step.0 line step.1, lines_last (n + 1) step.0 all more step.2)

  pub first_line : (text : List ℕ) (entries : List Entry) → read text ≡ Ok entries
      → first_undeclared sts entries ≡ undeclared_from sts 1 (lines text)
  unfolding read
  first_line text entries done = grind (arith, lines_last 1 [] entries (lines text))
