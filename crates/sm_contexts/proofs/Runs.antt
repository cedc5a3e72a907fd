-- The loops over lines.
use Rattle.std.proofs.Common.{◌≡◌, ℕ, ◌+◌, List, [], ◌∷◌, Ok, Err, refl, sym, ◌∙◌}
use Rattle.std.proofs.Common.{cond}
use Rattle.std.specs.List.{list_any}
use Rattle.sm_contexts.specs.declared.fault.ContextsFault.{ContextsFault}
use Rattle.sm_contexts.specs.declared.fault.ContextsFault.TheVariants.{NoDefault}
use Rattle.sm_contexts.specs.Reading.{Entry}
use Rattle.sm_values.specs.Reading.{Fails}
use Rattle.sm_values.proofs.Readers.{fails_along}
use Rattle.sm_contexts.specs.Reading.{Read, is_memory, with_line, entries_from, has_key, default_key}

pub runs_on : (n : ℕ) (entries more : List Entry) (line : List ℕ) (before lines : List (List ℕ))
    (total : Read (List Entry)) → before ≡ line ∷ lines → with_line n entries line ≡ Ok more
    → entries_from n entries before ≡ total → entries_from (n + 1) more lines ≡ total
unfolding entries_from
runs_on n entries more line before lines total front step so_far =
    let e : entries_from n entries before ≡ entries_from (n + 1) more lines = rw (front, step) refl in
    sym e ∙ so_far

pub runs_to_fault : (e : ContextsFault) (n : ℕ) (entries : List Entry) (line : List ℕ) (before lines : List (List ℕ))
    (total : Read (List Entry)) → before ≡ line ∷ lines → Fails is_memory e (with_line n entries line)
    → entries_from n entries before ≡ total → Fails is_memory e total
unfolding entries_from
runs_to_fault e n entries line before lines total front step so_far =
    fails_along is_memory e (with_line n entries line) total fails step where
      fails : with_line n entries line ≡ Err e → total ≡ Err e
      fails h =
          let u : entries_from n entries before ≡ Err e = rw (front, h) refl in
          sym so_far ∙ u

pub runs_out : (n : ℕ) (entries : List Entry) (before : List (List ℕ)) (total : Read (List Entry)) → before ≡ []
    → entries_from n entries before ≡ total
    → total ≡ cond (list_any (has_key default_key) entries) (Ok entries) (Err NoDefault)
unfolding entries_from
runs_out n entries before total none so_far =
    let e : entries_from n entries before ≡ cond (list_any (has_key default_key) entries) (Ok entries) (Err NoDefault) =
    rw none refl in
    sym so_far ∙ e
