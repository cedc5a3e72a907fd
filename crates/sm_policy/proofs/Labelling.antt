-- The numbers of the types in the labels.
use Rattle.std.proofs.Common.{◌≡◌, ℕ, ◌+◌, ◌<◌, List, [], ◌∷◌, ◌++◌, map, take, get_or, Option, None, Some, refl, sym, arith}
use Rattle.std.proofs.Common.{ap, ◌∙◌, length}
use Rattle.std.specs.Prelude.{option_map, slice_get}
use Rattle.std.proofs.lemmas.List.{length-map, take_more}
use Rattle.std.proofs.lemmas.Option.{get_or_from_slice_get, slice_get-map, slice_get_read, slice_get_within}
use Rattle.std.proofs.lemmas.Grind.{common_steps}
use Rattle.sm_values.specs.Contexts.{type_of}
use Rattle.sm_types.specs.Names.{Name}
use Rattle.sm_types.specs.Denoting.{types}
use Rattle.sm_contexts.specs.Reading.{Entry, label}
use Rattle.sm_policy.specs.Labelling.{AreNumbered, number_of}
use Rattle.sm_policy.specs.Policy.{Policy, label_of, type_index}

pub one_more : (names : List Name) (es : List Entry) (numbers : List ℕ) (i n : ℕ)
    → map (number_of names) (take i es) ≡ map Some numbers
    → option_map (number_of names) (slice_get es i) ≡ Some (Some n)
    → map (number_of names) (take (i + 1) es) ≡ map Some (numbers ++ n ∷ [])
one_more names es numbers i n before next = by (slice_get es i) refl next where
  by : (o : Option Entry) → slice_get es i ≡ o → option_map (number_of names) o ≡ Some (Some n)
      → map (number_of names) (take (i + 1) es) ≡ map Some (numbers ++ n ∷ [])
  by None here h = absurd cc
  by (Some e) here h =
      let more : take (i + 1) es ≡ take i es ++ e ∷ [] =
      take_more es i e (slice_get_within es i e here)
      ∙ ap (λ (x : Entry). take i es ++ x ∷ []) (get_or_from_slice_get es i e e here) in
      grind (arith, common_steps, more, before)

-- The type of a name's label has the number at the label's place.
pub label_number : (policy : Policy) (names : List Name) (numbers : List ℕ) (name : Name) (i n : ℕ)
    → names ≡ types policy.statements → AreNumbered names policy.entries numbers → i < length policy.entries
    → option_map (λ e. e.context) (slice_get policy.entries i) ≡ label policy.entries name
    → n ≡ get_or numbers i n
    → type_index policy (type_of (label_of policy name)) ≡ Some n
unfolding label_of
label_number policy names numbers name i n of are lt labelled read =
    let long : length policy.entries ≡ length numbers =
    sym (length-map policy.entries (number_of names)) ∙ (ap length are.each ∙ length-map numbers Some) in
    let same : slice_get (map (number_of names) policy.entries) i ≡ slice_get (map Some numbers) i =
    ap (λ (xs : List (Option ℕ)). slice_get xs i) are.each in
    grind (arith, labelled, of, slice_get-map (number_of names) policy.entries i, slice_get-map Some numbers i, slice_get_read numbers (length policy.entries) i n long lt read)
