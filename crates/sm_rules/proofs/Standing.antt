-- Kept rules represent the rules of a source.
use Rattle.std.proofs.Common.{◌≡◌, ℕ, ◌+◌, ◌<◌, List, [], ◌∷◌, ◌++◌, length, get_or, take, Option, Some, None, refl}
use Rattle.std.proofs.Common.{add-one}
use Rattle.std.specs.List.{filter_map, cons_option}
use Rattle.std.proofs.Math.Seq.{take-suc}
use Rattle.std.proofs.lemmas.List.{append-nil}
use Rattle.std.proofs.lemmas.List.Elements.{filter_map-append}
use Rattle.sm_ruletext.specs.declared.rule.Rule.{Rule}
use Rattle.sm_types.specs.Names.{Name}
use Rattle.sm_types.specs.Denoting.{Policy}
use Rattle.sm_rules.specs.declared.kept.Kept.{Kept}
use Rattle.sm_rules.specs.Keeping.{StandsFor, AllStandFor, Extends}

-- What is picked of one more item.
pub picked_more : {X Y : Type 0} (f : X → Option Y) (xs : List X) (i : ℕ) (x : X) → i < length xs → x ≡ get_or xs i x
    → filter_map f (take (i + 1) xs) ≡ filter_map f (take i xs) ++ cons_option (f x) []
picked_more f xs i x h is =
    let e : take (i + 1) xs ≡ take i xs ++ x ∷ [] = rw (add-one i, take-suc xs i x h, ← is) refl in
    rw (e, filter_map-append f (take i xs) (x ∷ [])) refl

stands_more : (policy : Policy) (names : List Name) (rs : List (ℕ × Rule)) (ks : List Kept) (r : ℕ × Rule) (k : Kept)
    → AllStandFor policy names rs ks → StandsFor policy names r k
    → AllStandFor policy names (rs ++ r ∷ []) (ks ++ k ∷ [])
stands_more policy names [] [] r k all here = (here, tt)
stands_more policy names (q ∷ rs) (j ∷ ks) r k all here = (all.0, stands_more policy names rs ks r k all.1 here)
stands_more policy names [] (j ∷ ks) r k all here = absurd all
stands_more policy names (q ∷ rs) [] r k all here = absurd all

pub extended : (policy : Policy) (names : List Name) (rs : List (ℕ × Rule)) (o : Option (ℕ × Rule))
    (old new : List Kept)
    → AllStandFor policy names rs old → Extends policy names o old new
    → AllStandFor policy names (rs ++ cons_option o []) new
extended policy names rs None old new all step = rw (append-nil rs, step) all
extended policy names rs (Some r) old new all step = rw step.2 (stands_more policy names rs old r step.0 all step.1)
