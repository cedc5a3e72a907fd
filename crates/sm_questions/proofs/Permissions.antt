-- The permissions, one after another.
use Rattle.std.proofs.Common.{◌≡◌, ℕ, ◌+◌, ◌<◌, List, ◌++◌, take, get_or, ap, sym, ◌∙◌, arith}
use Rattle.std.specs.List.{flat_map}
use Rattle.sm_questions.specs.Accesses.{perm_numbers}
use Rattle.sm_questions.proofs.Buffering.{held_step}

pub number_there : (b : ℕ) → b < 7 → get_or perm_numbers b 0 ≡ b
number_there b lt = grind arith

pub held_perm : {held next : List ℕ} (f : ℕ → List ℕ) (b : ℕ) (first : List ℕ) → b < 7
    → held ≡ first ++ flat_map f (take b perm_numbers) → next ≡ held ++ f b
    → next ≡ first ++ flat_map f (take (b + 1) perm_numbers)
held_perm {held} {next} f b first lt p q =
    held_step f perm_numbers b 0 first lt p (q ∙ ap (λ i. held ++ f i) (sym (number_there b lt)))
