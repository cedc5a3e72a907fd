-- What is said of declarations by the numbers of their types.
use Rattle.std.proofs.Common.{◌≡◌, ◌∙◌, ◌<◌, ℕ, Bool, true, false, List, [], ◌∷◌, ◌++◌, ◌||◌, ◌+◌, take, inl, inr, length, get_or, All, Any, refl, sym, ap}
use Rattle.std.proofs.Common.{arith, Some, None, Option, nat_eq, option_map}
use Rattle.std.specs.Prelude.{position, slice_get}
use Rattle.std.specs.Prelude.{IfSome}
use Rattle.std.specs.List.{flat_map, list_any}
use Rattle.std.proofs.lemmas.List.{flat_map_more, take_more}
use Rattle.std.specs.Str.{bytes_eq}
use Rattle.std.proofs.lemmas.List.Folds.{list_any_more, list_any_none}
use Rattle.std.proofs.lemmas.Option.{get_or_from_slice_get, slice_get_cases, slice_get_within}
use Rattle.sm_bits.specs.Bits.{has}
use Rattle.sm_values.specs.Permissions.{bit}
use Rattle.sm_values.specs.declared.class.Class.TheVariants.{ServiceManager}
use Rattle.sm_ruletext.specs.declared.statement.Statement.{Statement}
use Rattle.sm_types.specs.Denoting.{is_type_named, declares, type_of, types}
use Rattle.sm_types.specs.Names.{Distinct, at}
use Rattle.sm_ruletext.specs.declared.statement.What.{What}
use Rattle.sm_ruletext.specs.declared.statement.What.TheVariants as what
use Rattle.sm_matrices.proofs.Searches.{any_at}
use Rattle.std.proofs.lemmas.Slice.Eq.{bytes_eq-Decides}
use Rattle.sm_policy.proofs.Finding.{unplaced}
use Rattle.sm_types.proofs.NameLemmas.{absent_at, name_same, named_at}
use Rattle.sm_policy.specs.Policy.{Policy, allowed}
use Rattle.sm_policy.proofs.Looking.{refused_target}
use Rattle.sm_values.specs.Contexts.{type_of as type_of_context}
use Rattle.sm_contexts.specs.Reading.{Entry, line_and_context}
use Rattle.sm_ruletext.specs.declared.rule.Rule as Rule
use Rattle.sm_rules.specs.Keeping.{AllStandFor}
use Rattle.sm_rules.specs.declared.kept.Kept.{Kept}
use Rattle.sm_rules.proofs.Lines.{same_place}
use Rattle.sm_unused.specs.Declarations.{is_in_rule, is_of, is_of_label, key_line, some_adds}
use Rattle.sm_unused.specs.Rows.{HasTypes, entry_line, is_in_row}

-- The row has the type of a number if this holds for its name.
pub has_named : (policy : Policy) (row : List ℕ) (holds : List ℕ → Bool) (name : List ℕ) (i : ℕ)
    → HasTypes policy row holds → position (bytes_eq name) (types policy.statements) ≡ Some i → has row i ≡ holds name
has_named policy row holds name i says place =
    let there = named_at (types policy.statements) name i place in
    says.says i (slice_get_within (types policy.statements) i name there)
    ∙ ap holds (get_or_from_slice_get (types policy.statements) i name [] there)

-- No source may add a service whose label has a type that isn't declared.
pub no_adds : (policy : Policy) (t : List ℕ) → position (bytes_eq t) (types policy.statements) ≡ None
    → some_adds policy t ≡ false
unfolding allowed
no_adds policy t none =
    list_any_none (λ s. allowed policy s t ServiceManager (bit 1)) (types policy.statements)
    (λ i d lt. sym (ap (λ decision. decision.allowed)
    (refused_target policy.statements (get_or (types policy.statements) i d) t ServiceManager (bit 1) none)))

-- The type of a statement is declared.
pub is_declared : (policy : List Statement) (i : ℕ) (s : Statement) (t : List ℕ) → slice_get policy i ≡ Some s
    → type_of s.what ≡ Some t → declares policy t ≡ true
is_declared policy i s t there is = any_at (λ st. is_type_named t st.what) policy i s there (by s.what is) where
  by : (content : What) → type_of content ≡ Some t → is_type_named t content ≡ true
  by (what.Declared n names) e = grind (arith, name_same n t)
  by (what.Attribute n) e = grind arith
  by (what.Member n names) e = grind arith
  by (what.Rule kind r) e = grind arith
  by (what.Permissive n) e = grind arith

-- A name of no type isn't that of any number.
pub no_type_named : (names : List (List ℕ)) (name : List ℕ) (t : ℕ) → position (bytes_eq name) names ≡ None
    → t < length names → bytes_eq name (at names t) ≡ false
no_type_named names name t none lt = absent_at (bytes_eq name) names t [] (unplaced (bytes_eq name) names none) lt

-- Names are compared in either order.
pub turned : (a b : List ℕ) → bytes_eq a b ≡ bytes_eq b a
turned a b = grind (arith, bytes_eq-Decides a b, bytes_eq-Decides b a)

-- The type of the label of an entry that is there.
pub of_entry : (t context : List ℕ) (n : ℕ) (o : Option Entry) → option_map line_and_context o ≡ Some (n, context)
    → is_of t o ≡ bytes_eq t (type_of_context context)
of_entry t context n (Some e) same = ap (λ (seen : Option (ℕ × List ℕ)). by seen) same where
  by : Option (ℕ × List ℕ) → Bool
  by None = false
  by (Some seen) = bytes_eq t (type_of_context seen.1)
of_entry t context n None same = grind arith

-- The number of a name, beside another number.
pub placed_is : (names : List (List ℕ)) (name : List ℕ) (i t : ℕ) → Distinct names → t < length names
    → position (bytes_eq name) names ≡ Some i → nat_eq t i ≡ bytes_eq (at names t) name
placed_is names name i t distinct lt place =
    let there = named_at names name i place in
    same_place names t i distinct lt (slice_get_within names i name there)
    ∙ ap (bytes_eq (at names t)) (get_or_from_slice_get names i name [] there)

-- The types in kept rules are those in the rules that these represent.
pub in_rules : (policy : List Statement) (names : List (List ℕ)) (rules : List (ℕ × Rule.Rule)) (kept : List Kept) (t : ℕ)
    → AllStandFor policy names rules kept → t < length names
    → list_any (is_in_row t) kept ≡ list_any (is_in_rule policy (at names t)) rules
in_rules policy names [] [] t all lt = refl
in_rules policy names (r ∷ rules) (k ∷ kept) t all lt =
    rw (all.0.sources t lt, all.0.targets t lt, in_rules policy names rules kept t all.1 lt) refl
in_rules policy names [] (k ∷ kept) t all lt = absurd all
in_rules policy names (r ∷ rules) [] t all lt = absurd all

-- The types of the labels of one more entry.
pub labels_more : (entries : List Entry) (t : List ℕ) (i : ℕ) → i < length entries
    → is_of_label (take (i + 1) entries) t ≡ (is_of_label (take i entries) t || is_of t (slice_get entries i))
labels_more entries t i lt = elim (slice_get_cases entries i).1 [
  | inl x ↦ rw (x.2) (list_any_more (λ e. is_of t (Some e)) entries i x.0 lt
      ∙ ap (λ e. is_of_label (take i entries) t || is_of t (Some e)) x.3)
  | inr x ↦ absurd (omega (arith, x.0, lt))
]

-- The lines for one more entry.
pub keys_more : (path : List ℕ) (policy : Policy) (lines : List ℕ) (i : ℕ) → i < length policy.entries
    → (lines ++ flat_map (key_line path policy) (take i policy.entries))
    ++ entry_line path policy (slice_get policy.entries i)
    ≡ lines ++ flat_map (key_line path policy) (take (i + 1) policy.entries)
keys_more path policy lines i lt = elim (slice_get_cases policy.entries i).1 [
  | inl x ↦ rw (x.2) (flat_map_more (key_line path policy) lines (take i policy.entries) x.0
      ∙ ap (λ es. lines ++ flat_map (key_line path policy) es)
      (sym (take_more policy.entries i x.0 lt ∙ ap (λ e. take i policy.entries ++ e ∷ []) x.3)))
  | inr x ↦ absurd (omega (arith, x.0, lt))
]

-- The type of the statement at an index, if it declares one, is declared.
pub declared_at : (policy : List Statement) (i : ℕ) (s : Statement) → slice_get policy i ≡ Some s
    → IfSome (type_of s.what) (λ n. declares policy n ≡ true)
declared_at policy i s there = by (type_of s.what) refl where
  by : (o : Option (List ℕ)) → type_of s.what ≡ o → IfSome o (λ n. declares policy n ≡ true)
  by None is = search
  by (Some n) is = is_declared policy i s n there is
