-- The watchers of a name have watched names with its label.
use Rattle.std.proofs.Common.{◌≡◌, ℕ, Bool, true, false, List, [], ◌∷◌, refl, sym, subst, if◌then◌else◌}
use Rattle.std.specs.Prelude.{filter}
use Rattle.std.specs.List.{All}
use Rattle.std.specs.Str.{bytes_eq}
use Rattle.std.proofs.lemmas.List.Elements.{All-nil, All-cons}
use Rattle.sm_policy.specs.declared.labels.Label.{Label}
use Rattle.sm_history.specs.declared.effect.Watch.{Watch}
use Rattle.sm_history.specs.Effects.{Effects}
use Rattle.sm_history.specs.Services.{watches_at, watchers_at}
use Rattle.sm_history.proofs.Rising.{same_bytes}
use Rattle.sm_core.specs.Tables.{IsLabel}

-- What is picked by a test has what the test says.
all_picked : {X : Type 0} (p : X → Bool) (P : X → Type 0) → ((x : X) → p x ≡ true → P x) → (xs : List X)
    → All P (filter p xs)
all_picked p P f [] = All-nil P
all_picked p P f (x ∷ xs) =
    let rest = all_picked p P f xs in
    elim (p x) as (λ b. p x ≡ b → All P (if b then x ∷ filter p xs else filter p xs)) [
      | true ↦ λ e. All-cons P x (filter p xs) (f x e) rest
      | false ↦ λ e. rest
    ] refl

pub watchers_labelled : (d : Effects) (name : List ℕ) (label : Label) → IsLabel d name label
    → All (λ w. IsLabel d w.name label) (watchers_at d name)
watchers_labelled d name label is =
    all_picked (λ w. bytes_eq w.name name) (λ (w : Watch). IsLabel d w.name label)
    (λ w same. subst (λ (n : List ℕ). IsLabel d n label) (sym (same_bytes w.name name same)) is) (watches_at d)
