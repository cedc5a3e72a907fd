-- The entries of an accepted text have the first line of each key.
use Rattle.std.proofs.Common.{◌≡◌, ℕ, ◌+◌, Bool, true, false, ◌&&◌, cond, if◌then◌else◌, List, [], ◌∷◌, ◌++◌, length}
use Rattle.std.proofs.Common.{Option, None, Some, Ok, Err, refl, sym, ap, ◌∙◌}
use Rattle.std.specs.Prelude.{find, option_map, nat_lt, count_by}
use Rattle.std.specs.List.{list_any}
use Rattle.std.specs.Option.{option_or}
use Rattle.std.specs.Str.{bytes_eq}
use Rattle.std.proofs.lemmas.Slice.Eq.{bytes_eq-Decides}
use Rattle.sm_values.specs.Contexts.{is_context}
use Rattle.sm_contexts.specs.declared.fault.ContextsFault.TheVariants.{TooLarge, BadLine, Conflict, TwoDefaults}
use Rattle.sm_contexts.specs.declared.fault.ContextsFault.TheVariants.{NoDefault}
use Rattle.sm_contexts.specs.Lines.{lines, first_word, after_word}
use Rattle.sm_values.specs.Reading.{◌>>=◌}
use Rattle.sm_values.specs.declared.limits.TheConstants.{MOST_TEXT_BYTES}
use Rattle.sm_contexts.specs.declared.limits.TheConstants.{MOST_ENTRY_LINES}
use Rattle.sm_contexts.specs.Reading.{Entry, Read, has_key, default_key, is_entry, placed, with_entry, with_line}
use Rattle.sm_contexts.specs.Reading.{entries_from, read, line_and_context, line_of, is_line_of, AreFirstLines}

-- What the entries say of a name.
found : List ℕ → List Entry → Option (ℕ × List ℕ)
found name es = option_map line_and_context (find (has_key name) es)

-- What line n says of a name, by its words.
said : List ℕ → ℕ → List ℕ → List ℕ → Option (ℕ × List ℕ)
said name n key context = if bytes_eq name key then Some (n, context) else None

or_none : {A : Type 0} (x : Option A) → option_or x None ≡ x
or_none None = refl
or_none (Some x) = refl

-- A new entry is found last.
found_last : (name : List ℕ) (e : Entry) (es : List Entry)
    → found name (es ++ e ∷ []) ≡ option_or (found name es) (said name e.line e.key e.context)
unfolding found said
found_last name e [] = by (bytes_eq name e.key) where
  by : (b : Bool) → option_map line_and_context (cond b (Some e) None) ≡ cond b (Some (e.line, e.context)) None
  by true = refl
  by false = refl
found_last name e (x ∷ xs) = by (bytes_eq name x.key) (found_last name e xs) where
  by : (b : Bool) → option_map line_and_context (find (has_key name) (xs ++ e ∷ []))
      ≡ option_or (option_map line_and_context (find (has_key name) xs))
      (if bytes_eq name e.key then Some (e.line, e.context) else None)
      → option_map line_and_context (cond b (Some x) (find (has_key name) (xs ++ e ∷ [])))
      ≡ option_or (option_map line_and_context (cond b (Some x) (find (has_key name) xs)))
      (if bytes_eq name e.key then Some (e.line, e.context) else None)
  by true rest = refl
  by false rest = rest

-- A repeated key says nothing new.
said_before : (name : List ℕ) (n : ℕ) (key context : List ℕ) (es : List Entry) (e : Entry)
    → find (has_key key) es ≡ Some e
    → found name es ≡ option_or (found name es) (said name n key context)
unfolding found said
said_before name n key context es e there = by (bytes_eq name key) refl where
  by : (b : Bool) → bytes_eq name key ≡ b
      → option_map line_and_context (find (has_key name) es)
      ≡ option_or (option_map line_and_context (find (has_key name) es)) (cond b (Some (n, context)) None)
  by true same = let is : name ≡ key = (bytes_eq-Decides name key).0 same in rw (is, there) refl
  by false other = sym (or_none (option_map line_and_context (find (has_key name) es)))

placed_found : (name : List ℕ) (n : ℕ) (entries more : List Entry) (key context : List ℕ)
    → with_entry n entries key context ≡ Ok more
    → found name more ≡ option_or (found name entries) (said name n key context)
unfolding with_entry
placed_found name n entries more key context done = by (find (has_key key) entries) refl done where
  kept : (e : Entry) (b : Bool) → find (has_key key) entries ≡ Some e
      → cond b (Ok entries) (Err (Conflict e.line n)) ≡ Ok more
      → found name more ≡ option_or (found name entries) (said name n key context)
  kept e true there h = let is : entries ≡ more = cc in rw (← is) (said_before name n key context entries e there)
  kept e false there h = absurd cc

  again : (e : Entry) (b c : Bool) → find (has_key key) entries ≡ Some e
      → cond b (Err (TwoDefaults n)) (cond c (Ok entries) (Err (Conflict e.line n))) ≡ Ok more
      → found name more ≡ option_or (found name entries) (said name n key context)
  again e true c there h = absurd cc
  again e false c there h = kept e c there h

  by : (o : Option Entry) → find (has_key key) entries ≡ o → placed n entries key context o ≡ Ok more
      → found name more ≡ option_or (found name entries) (said name n key context)
  by None none h =
      let is : entries ++ record { line = n; key = key; context = context } ∷ [] ≡ more = cc in
      rw (← is) (found_last name (record { line = n; key = key; context = context }) entries)
  by (Some e) there h = again e (bytes_eq key default_key) (bytes_eq e.context context) there h

-- What line n says of a name.
line_said : List ℕ → ℕ → List ℕ → Option (ℕ × List ℕ)
line_said name n line = if is_line_of name line then Some (n, first_word (after_word line)) else None

with_line_found : (name : List ℕ) (n : ℕ) (entries more : List Entry) (line : List ℕ)
    → with_line n entries line ≡ Ok more
    → found name more ≡ option_or (found name entries) (line_said name n line)
unfolding with_line line_said said
with_line_found name n entries more line done =
    by (is_entry line) (is_context (first_word (after_word line))) (first_word line) (first_word (after_word line))
    done where
      by : (a b : Bool) (key word : List ℕ)
          → cond a ((cond b (Ok word) (Err (BadLine n))) >>= λ context. with_entry n entries key context) (Ok entries)
          ≡ Ok more
          → found name more ≡ option_or (found name entries) (cond (a && bytes_eq name key) (Some (n, word)) None)
      by true true key word h = placed_found name n entries more key word h
      by true false key word h = absurd cc
      by false b key word h = let is : entries ≡ more = cc in rw (← is) (sym (or_none (found name entries)))

in_turn : (a b : Option (ℕ × List ℕ)) (is : Bool) (x : ℕ × List ℕ)
    → option_or (option_or a (cond is (Some x) None)) b ≡ option_or a (cond is (Some x) b)
in_turn None b true x = refl
in_turn None b false x = refl
in_turn (Some y) b is x = refl

entries_found : (name : List ℕ) (n : ℕ) (entries all : List Entry) (ls : List (List ℕ))
    → entries_from n entries ls ≡ Ok all
    → found name all ≡ option_or (found name entries) (line_of name n ls)
unfolding entries_from line_said
entries_found name n entries all [] done = by (list_any (has_key default_key) entries) done where
  by : (b : Bool) → cond b (Ok entries) (Err NoDefault) ≡ Ok all → found name all ≡ option_or (found name entries) None
  by true h = let is : entries ≡ all = cc in rw (← is) (sym (or_none (found name entries)))
  by false h = absurd cc
entries_found name n entries all (line ∷ more) done =
    by (with_line n entries line) refl done (λ e. entries_found name (n + 1) e all more) where
      by : (r : Read (List Entry)) → with_line n entries line ≡ r → (r >>= λ e. entries_from (n + 1) e more) ≡ Ok all
          → ((e : List Entry) → entries_from (n + 1) e more ≡ Ok all
          → found name all ≡ option_or (found name e) (line_of name (n + 1) more))
          → found name all ≡ option_or (found name entries) (line_of name n (line ∷ more))
      by (Ok e) step h rest =
          rest e h ∙ (ap (λ o. option_or o (line_of name (n + 1) more)) (with_line_found name n entries e line step)
          ∙ in_turn (found name entries) (line_of name (n + 1) more) (is_line_of name line)
          (n, first_word (after_word line)))
      by (Err f) step h rest = absurd cc

pub first_lines : (text : List ℕ) (entries : List Entry) → read text ≡ Ok entries → AreFirstLines text entries
unfolding read found
first_lines text entries done name =
    by (nat_lt MOST_TEXT_BYTES (length text)) (nat_lt MOST_ENTRY_LINES (count_by is_entry (lines text))) done where
      by : (a b : Bool) → cond a (Err TooLarge) (cond b (Err TooLarge) (entries_from 1 [] (lines text))) ≡ Ok entries
          → option_map line_and_context (find (has_key name) entries) ≡ line_of name 1 (lines text)
      by true b h = absurd cc
      by false true h = absurd cc
      by false false h = entries_found name 1 [] entries (lines text) h
