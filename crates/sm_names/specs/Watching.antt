-- Lists of watches, in rising byte order of their names, and of one name oldest first.
use Rattle.std.specs.Prelude.{ℕ, ◌≡◌, Bool, true, List, [], ◌∷◌, bytes_eq, count_by, filter}
use Rattle.std.specs.List.{list_all}
use Rattle.std.specs.Ordering.{nat_cmp, is_le}
use Rattle.std.specs.Cmp.Lexicographic.{slice_cmp}
use Rattle.sm_history.specs.declared.effect.Watch.{Watch}
use Rattle.sm_history.specs.Effects.{Effects}
use Rattle.sm_history.specs.Services.{watches_at, watchers_at}

-- These are the watches of a name.
abbrev pub watchers_in : List Watch → List ℕ → List Watch
watchers_in ws name = filter (λ w. bytes_eq w.name name) ws

-- No watch has a name before this one.
abbrev pub NoneBefore : List ℕ → List Watch → Type 0
NoneBefore name ws = list_all (λ w. is_le (slice_cmp nat_cmp name w.name)) ws ≡ true

-- No watch has a name before those of earlier watches.
abbrev pub AreInOrder : List Watch → Type 0
AreInOrder [] = Unit {0}
AreInOrder (w ∷ ws) = NoneBefore w.name ws × AreInOrder ws

-- The list has the watches of the effects, by name.
pub record TracksList (d : Effects) (ws : List Watch) : Type 0 where
  pub watchers : (name : List ℕ) → watchers_in ws name ≡ watchers_at d name
  pub counts : (q : Watch → Bool) → count_by q ws ≡ count_by q (watches_at d)
  pub ordered : AreInOrder ws
