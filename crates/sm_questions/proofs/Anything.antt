-- Whether there are any lines.
use Rattle.std.proofs.Common.{◌≡◌, ℕ, ◌+◌, ◌<◌, ◌≤◌, Bool, List, [], ◌∷◌, ◌++◌, length, take, get_or, nat_lt, refl}
use Rattle.std.proofs.Common.{arith}
use Rattle.std.specs.Prelude.{◌||◌, not}
use Rattle.std.specs.List.{flat_map}
use Rattle.std.proofs.lemmas.List.{take_all}
use Rattle.std.proofs.lemmas.Bool.Decides.{nat_tests}
use Rattle.std.proofs.lemmas.Grind.{common_steps}
use Rattle.sm_questions.specs.Differences.{is_any}
use Rattle.sm_questions.proofs.Buffering.{flat_step}

-- There are lines in two texts if there are in one of them.
pub any_both : (lines more : List ℕ) → is_any (lines ++ more) ≡ (is_any lines || is_any more)
any_both [] more = refl
any_both (x ∷ lines) more = grind (arith, nat_tests)

pub any_step : {A : Type 0} (f : A → List ℕ) (xs : List A) (i : ℕ) (d : A) {any more both : Bool} → i < length xs
    → any ≡ is_any (flat_map f (take i xs)) → more ≡ is_any (f (get_or xs i d)) → both ≡ (any || more)
    → both ≡ is_any (flat_map f (take (i + 1) xs))
any_step f xs i d {any} {more} {both} lt p q e =
    rw (flat_step f xs i d lt, any_both (flat_map f (take i xs)) (f (get_or xs i d)), ← p, ← q) e

-- There are lines if what is held got longer.
pub any_held : {next : List ℕ} (held lines : List ℕ) → next ≡ held ++ lines
    → nat_lt (length held) (length next) ≡ is_any lines
any_held {next} held lines e = grind (arith, common_steps, e)

pub any_list : {A : Type 0} (f : A → List ℕ) (xs : List A) (i : ℕ) {any : Bool} → length xs ≤ i
    → any ≡ is_any (flat_map f (take i xs)) → any ≡ is_any (flat_map f xs)
any_list f xs i {any} le p = rw (take_all i xs le) at p

-- There are no lines in three texts.
pub none_of_three : (lines more last : List ℕ) {any_lines any_more any_last both all : Bool}
    → any_lines ≡ is_any lines → any_more ≡ is_any more → any_last ≡ is_any last
    → both ≡ (any_lines || any_more) → all ≡ (both || any_last) → not all ≡ not (is_any (lines ++ more ++ last))
none_of_three lines more last {any_lines} {any_more} {any_last} {both} {all} p q r e f =
    rw (any_both (lines ++ more) last, any_both lines more, ← p, ← q, ← r, ← e, ← f) refl
