-- A client is live if it is among the live clients.
use Rattle.std.proofs.Common.{◌≡◌, ℕ, Bool, true, false, ◌||◌, ◌&&◌, ◌==◌, List, [], ◌∷◌, refl, ap, sym, ◌∙◌}
use Rattle.std.specs.Prelude.{reverse, filter_map, not}
use Rattle.std.specs.List.{list_any}
use Rattle.std.proofs.lemmas.List.Sorted.{list_any-IsPermutation, IsPermutation-reverse}
use Rattle.std.proofs.lemmas.Map.Views.{any-filter_same}
use Rattle.sm_history.specs.Effects.{Effects, Connects}
use Rattle.sm_history.specs.Clients.{live_clients, is_live, is_connect_of, is_death_of, connected}
use Rattle.sm_history.proofs.Balanced.{number_same}

pub any_reversed : {X : Type 0} (p : X → Bool) (xs : List X) → list_any p (reverse xs) ≡ list_any p xs
any_reversed p xs = sym (list_any-IsPermutation p xs (reverse xs) (IsPermutation-reverse xs))

any_connected : (d : Effects) (c : ℕ) → list_any (λ x. x == c) (filter_map connected d) ≡ list_any (is_connect_of c) d
any_connected [] c = refl
any_connected (Connects k who ∷ d) c = ap (λ b. (k == c) || b) (any_connected d c)
any_connected (x ∷ d) c = any_connected d c

and_again : (a b : Bool) → ((a && b) && a) ≡ (a && b)
and_again true true = refl
and_again true false = refl
and_again false b = refl

pub any_live : (d : Effects) (c : ℕ) → list_any (λ x. x == c) (live_clients d) ≡ is_live d c
any_live d c =
    any-filter_same (λ x. x == c) (is_live d) (is_live d c) (λ k e. ap (is_live d) (number_same k c e))
    (reverse (filter_map connected d))
    ∙ ap (λ b. is_live d c && b) (any_reversed (λ x. x == c) (filter_map connected d) ∙ any_connected d c)
    ∙ and_again (list_any (is_connect_of c) d) (not (list_any (is_death_of c) d))
