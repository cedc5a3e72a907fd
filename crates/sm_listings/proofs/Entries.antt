-- The lines of entries, one after another, and the keys that have one.
use Rattle.std.proofs.Common.{◌≡◌, ◌∙◌, ℕ, ◌+◌, ◌<◌, Bool, true, false, ◌&&◌, ◌||◌, cond, List, [], ◌∷◌, ◌++◌, length}
use Rattle.std.proofs.Common.{Option, None, Some, Ok, Err, is_some, get_or, refl, sym, ap, arith, true≢false}
use Rattle.std.specs.Prelude.{count_by, filter, find, if◌then◌else◌, nat_lt, slice_get}
use Rattle.std.specs.List.{flat_map, list_any}
use Rattle.std.specs.Str.{bytes_eq}
use Rattle.std.proofs.lemmas.Option.{slice_get-get_or}
use Rattle.std.proofs.lemmas.Slice.Eq.{bytes_eq-Decides}
use Rattle.sm_values.specs.Contexts.{is_context, type_of}
use Rattle.sm_values.specs.Reading.{◌>>=◌}
use Rattle.sm_values.specs.declared.class.Class.TheVariants.{ServiceManager}
use Rattle.sm_values.specs.declared.limits.TheConstants.{MOST_TEXT_BYTES}
use Rattle.sm_values.specs.declared.perms.Perms.{Perms}
use Rattle.sm_types.specs.Names.{Name}
use Rattle.sm_contexts.specs.Lines.{lines, first_word, after_word}
use Rattle.sm_contexts.specs.Reading.{Entry, Read, default_key, entries_from, has_key, is_entry, placed}
use Rattle.sm_contexts.specs.Reading.{read, with_entry, with_line}
use Rattle.sm_contexts.specs.declared.fault.ContextsFault.TheVariants.{BadLine, Conflict, NoDefault, TooLarge}
use Rattle.sm_contexts.specs.declared.fault.ContextsFault.TheVariants.{TwoDefaults}
use Rattle.sm_contexts.specs.declared.limits.TheConstants.{MOST_ENTRY_LINES}
use Rattle.sm_policy.specs.Policy.{Policy, allowed, label_of}
use Rattle.sm_listings.specs.Named.{allowed_entries, allowed_line, is_allowed, line_of, name_line, name_lines}

-- ---- one entry after another

-- Lines that only some have are the lines of those.
some_lines : {A : Type 0} (p : A → Bool) (f : A → List ℕ) (xs : List A)
    → flat_map (λ x. if p x then f x else []) xs ≡ flat_map f (filter p xs)
some_lines p f [] = refl
some_lines p f (x ∷ xs) = by (p x) (some_lines p f xs) where
  by : (b : Bool) → flat_map (λ y. if p y then f y else []) xs ≡ flat_map f (filter p xs)
      → (if b then f x else []) ++ flat_map (λ y. if p y then f y else []) xs
      ≡ flat_map f (cond b (x ∷ filter p xs) (filter p xs))
  by true rest = ap (λ l. f x ++ l) rest
  by false rest = rest

pub all_lines : (policy : Policy) (source : Name) (perm : Perms)
    → flat_map (allowed_line policy source perm) policy.entries ≡ name_lines policy source perm
unfolding name_lines
all_lines policy source perm = some_lines (is_allowed policy source perm) name_line policy.entries

pub line_there : (policy : Policy) (source : Name) (perm : Perms) (lines : List ℕ) (i : ℕ) (d : Entry)
    → i < length policy.entries → lines ++ line_of policy source perm (slice_get policy.entries i)
    ≡ lines ++ allowed_line policy source perm (get_or policy.entries i d)
line_there policy source perm lines i d lt =
    ap (λ o. lines ++ line_of policy source perm o) (slice_get-get_or policy.entries i d lt)

-- ---- each key once

-- No two entries have the same key.
Once : List Entry → Type 0
Once [] = Unit {0}
Once (e ∷ es) = (list_any (has_key e.key) es ≡ false) × Once es

found_any : (name : Name) (es : List Entry) → is_some (find (has_key name) es) ≡ list_any (has_key name) es
found_any name [] = refl
found_any name (e ∷ es) = by (bytes_eq name e.key) (found_any name es) where
  by : (b : Bool) → is_some (find (has_key name) es) ≡ list_any (has_key name) es
      → is_some (cond b (Some e) (find (has_key name) es)) ≡ (b || list_any (has_key name) es)
  by true rest = refl
  by false rest = rest

neither : (a b : Bool) → (a || b) ≡ false → (a ≡ false) × (b ≡ false)
neither false b h = (refl, h)
neither true b h = absurd (true≢false h)

turned : (a b : Name) → bytes_eq a b ≡ false → bytes_eq b a ≡ false
turned a b h = grind (arith, bytes_eq-Decides a b, bytes_eq-Decides b a, h)

any_last : (name : Name) (e : Entry) (es : List Entry)
    → list_any (has_key name) (es ++ e ∷ []) ≡ (list_any (has_key name) es || bytes_eq name e.key)
any_last name e [] = by (bytes_eq name e.key) where
  by : (b : Bool) → (b || false) ≡ b
  by true = refl
  by false = refl
any_last name e (x ∷ xs) = by (bytes_eq name x.key) (any_last name e xs) where
  by : (b : Bool) → list_any (has_key name) (xs ++ e ∷ []) ≡ (list_any (has_key name) xs || bytes_eq name e.key)
      → (b || list_any (has_key name) (xs ++ e ∷ []))
      ≡ ((b || list_any (has_key name) xs) || bytes_eq name e.key)
  by true rest = refl
  by false rest = rest

once_last : (e : Entry) (es : List Entry) → Once es → list_any (has_key e.key) es ≡ false → Once (es ++ e ∷ [])
unfolding Once
once_last e [] once none = (refl, tt)
once_last e (x ∷ xs) once none =
    let apart = neither (bytes_eq e.key x.key) (list_any (has_key e.key) xs) none in
    (any_last x.key e xs ∙ rw (once.0, turned e.key x.key apart.0) refl, once_last e xs once.1 apart.1)

once_placed : (n : ℕ) (entries more : List Entry) (key context : Name) → Once entries
    → with_entry n entries key context ≡ Ok more → Once more
unfolding with_entry
once_placed n entries more key context once done = by (find (has_key key) entries) refl done where
  kept : (e : Entry) (b : Bool) → cond b (Ok entries) (Err (Conflict e.line n)) ≡ Ok more → Once more
  kept e true h = let is : entries ≡ more = cc in rw (← is) once
  kept e false h = absurd cc

  again : (e : Entry) (b c : Bool)
      → cond b (Err (TwoDefaults n)) (cond c (Ok entries) (Err (Conflict e.line n))) ≡ Ok more → Once more
  again e true c h = absurd cc
  again e false c h = kept e c h

  by : (o : Option Entry) → find (has_key key) entries ≡ o → placed n entries key context o ≡ Ok more → Once more
  by None none h =
      let is : entries ++ record { line = n; key = key; context = context } ∷ [] ≡ more = cc in
      rw (← is) (once_last (record { line = n; key = key; context = context }) entries once
      (sym (found_any key entries) ∙ ap is_some none))
  by (Some e) there h = again e (bytes_eq key default_key) (bytes_eq e.context context) h

once_line : (n : ℕ) (entries more : List Entry) (line : Name) → Once entries
    → with_line n entries line ≡ Ok more → Once more
unfolding with_line
once_line n entries more line once done =
    by (is_entry line) (is_context (first_word (after_word line))) (first_word line) (first_word (after_word line))
    done where
      by : (a b : Bool) (key word : Name)
          → cond a ((cond b (Ok word) (Err (BadLine n))) >>= λ context. with_entry n entries key context) (Ok entries)
          ≡ Ok more → Once more
      by true true key word h = once_placed n entries more key word once h
      by true false key word h = absurd cc
      by false b key word h = let is : entries ≡ more = cc in rw (← is) once

once_from : (n : ℕ) (entries all : List Entry) (ls : List Name) → Once entries
    → entries_from n entries ls ≡ Ok all → Once all
unfolding entries_from
once_from n entries all [] once done = by (list_any (has_key default_key) entries) done where
  by : (b : Bool) → cond b (Ok entries) (Err NoDefault) ≡ Ok all → Once all
  by true h = let is : entries ≡ all = cc in rw (← is) once
  by false h = absurd cc
once_from n entries all (line ∷ more) once done =
    by (with_line n entries line) refl done (λ e. once_from (n + 1) e all more) where
      by : (r : Read (List Entry)) → with_line n entries line ≡ r → (r >>= λ e. entries_from (n + 1) e more) ≡ Ok all
          → ((e : List Entry) → Once e → entries_from (n + 1) e more ≡ Ok all → Once all) → Once all
      by (Ok e) step h rest = rest e (once_line n entries e line once step) h
      by (Err f) step h rest = absurd cc

once_read : (text : Name) (entries : List Entry) → read text ≡ Ok entries → Once entries
unfolding read Once
once_read text entries done =
    by (nat_lt MOST_TEXT_BYTES (length text)) (nat_lt MOST_ENTRY_LINES (count_by is_entry (lines text))) done where
      by : (a b : Bool) → cond a (Err TooLarge) (cond b (Err TooLarge) (entries_from 1 [] (lines text))) ≡ Ok entries
          → Once entries
      by true b h = absurd cc
      by false true h = absurd cc
      by false false h = once_from 1 [] entries (lines text) tt h

-- ---- the keys that are listed

-- An entry passes a test, if there is one.
passes : (Entry → Bool) → Option Entry → Bool
passes p None = false
passes p (Some e) = p e

-- A key is among the entries that pass a test if its only entry passes it.
kept_key : (p : Entry → Bool) (name : Name) (es : List Entry) → Once es
    → list_any (has_key name) (filter p es) ≡ passes p (find (has_key name) es)
unfolding Once passes
kept_key p name [] once = refl
kept_key p name (e ∷ es) once = by (bytes_eq name e.key) (p e) refl refl (kept_key p name es once.1) where
  alone : bytes_eq name e.key ≡ true → passes p (find (has_key name) es) ≡ false
  alone same =
      let is : name ≡ e.key = (bytes_eq-Decides name e.key).0 same in
      none (find (has_key name) es) (found_any name es ∙ rw is once.0) where
        none : (o : Option Entry) → is_some o ≡ false → passes p o ≡ false
        none None h = refl
        none (Some x) h = absurd (true≢false h)

  by : (a b : Bool) → bytes_eq name e.key ≡ a → p e ≡ b
      → list_any (has_key name) (filter p es) ≡ passes p (find (has_key name) es)
      → list_any (has_key name) (cond b (e ∷ filter p es) (filter p es))
      ≡ passes p (cond a (Some e) (find (has_key name) es))
  by true true same is rest = rw (same, is) refl
  by true false same is rest = rest ∙ alone same ∙ sym is
  by false true other is rest = rw other rest
  by false false other is rest = rest

pub listed : (contexts : Name) (policy : Policy) (source : Name) (perm : Perms) (name : Name)
    → read contexts ≡ Ok policy.entries
    → list_any (has_key name) (allowed_entries policy source perm) ≡ (list_any (has_key name) policy.entries
    && allowed policy source (type_of (label_of policy name)) ServiceManager perm)
unfolding label_of passes
listed contexts policy source perm name done =
    let p = is_allowed policy source perm in
    let once = once_read contexts policy.entries done in
    kept_key p name policy.entries once ∙ by (find (has_key name) policy.entries) refl where
      by : (o : Option Entry) → find (has_key name) policy.entries ≡ o
          → passes (is_allowed policy source perm) o ≡ (list_any (has_key name) policy.entries
          && allowed policy source (type_of (label_of policy name)) ServiceManager perm)
      by None none = rw (← found_any name policy.entries, none) refl
      by (Some e) there = rw (← found_any name policy.entries, there) refl
