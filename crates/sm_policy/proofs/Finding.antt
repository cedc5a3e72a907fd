-- What is found, and where.
use Rattle.std.proofs.Common.{◌≡◌, ℕ, zero, suc, ◌+◌, ◌≤◌, drop, length, Bool, false, List, [], ◌∷◌}
use Rattle.std.proofs.Common.{Option, None, is_some, refl, arith}
use Rattle.std.specs.Prelude.{find, slice_get, position}
use Rattle.std.specs.Option.{option_or}
use Rattle.std.specs.List.{list_any, filter_map}
use Rattle.std.proofs.lemmas.Grind.{common_steps}
use Rattle.sm_ruletext.specs.declared.statement.Statement.{Statement}
use Rattle.sm_contexts.specs.Reading.{Entry}
use Rattle.sm_policy.specs.Undeclared.{first_undeclared, undeclared_line}

pub is_some-find : {A : Type 0} (p : A → Bool) (xs : List A) → is_some (find p xs) ≡ list_any p xs
is_some-find p [] = refl
is_some-find p (x ∷ xs) = grind (arith, is_some-find p xs)

-- What has no place isn't there.
pub unplaced : {A : Type 0} (p : A → Bool) (xs : List A) → position p xs ≡ None → list_any p xs ≡ false
unplaced p [] none = refl
unplaced p (x ∷ xs) none = grind (arith, common_steps, unplaced p xs)

-- The entry at i, and those behind it.
pub undeclared_step : (sts : List Statement) (es : List Entry) (i : ℕ)
    → first_undeclared sts (drop i es)
    ≡ option_or (undeclared_line sts (slice_get es i)) (first_undeclared sts (drop (i + 1) es))
undeclared_step sts [] zero = refl
undeclared_step sts [] (suc i) = let one : suc i + 1 ≡ suc (i + 1) = omega arith in rw one refl
undeclared_step sts (e ∷ es) zero = grind arith
undeclared_step sts (e ∷ es) (suc i) = let one : suc i + 1 ≡ suc (i + 1) = omega arith in
    rw one (undeclared_step sts es i)

pub filter_map_len : {A B : Type 0} (f : A → Option B) (xs : List A) → length (filter_map f xs) ≤ length xs
filter_map_len f [] = omega arith
filter_map_len f (x ∷ xs) = grind (arith, filter_map_len f xs)
