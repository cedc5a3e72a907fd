-- Which effects may come next, and sequences of effects.
use Rattle.sm_values.specs.declared.number.Node.{Node}
use Rattle.std.specs.Prelude.{ℕ, ◌≡◌, ◌+◌, true, false, ◌==◌, List, [], ◌∷◌, nat_lt, length}
use Rattle.sm_history.specs.Effects.{Effect, Effects, Connects, Dies, Adds, Gives, Releases, Watches, Unwatches}
use Rattle.sm_history.specs.Effects.{Delivers, Takes, Resumes}
use Rattle.sm_history.specs.Clients.{is_live, next_client}
use Rattle.sm_history.specs.Holdings.{refs_at, is_held, number_for, fits_handles}
use Rattle.sm_history.specs.Inboxes.{inbox_at, has_inbox_room}
use Rattle.sm_history.specs.Services.{watches_at}
use Rattle.sm_history.specs.declared.limits.TheConstants.{MOST_WATCHES, GREATEST}

-- The judgement of an event has made sure of this for each of its effects.
abbrev pub MayFollow : Effects → Effect → Type 0
MayFollow d (Connects c who) = c ≡ next_client d
MayFollow d (Dies c) = is_live d c ≡ true
MayFollow d (Adds name s) = is_live d s.node.owner.0 ≡ true
MayFollow d (Gives c n r) =
    (is_live d c ≡ true) × (r ≡ number_for d c n) × ((n.owner.0 == c) ≡ false)
    × (fits_handles (Gives c n r ∷ d) c ≡ true) × (nat_lt (refs_at d c n + 1) GREATEST ≡ true)
MayFollow d (Releases c n) = (is_live d c ≡ true) × (is_held d c n ≡ true)
MayFollow d (Watches w) = (is_live d w.client ≡ true) × (nat_lt (length (watches_at d)) MOST_WATCHES ≡ true)
MayFollow d (Unwatches w) = is_live d w.client ≡ true
MayFollow d (Delivers c x) = (is_live d c ≡ true) × (has_inbox_room d c ≡ true)
MayFollow d (Takes c) = nat_lt 0 (length (inbox_at d c)) ≡ true
MayFollow d (Resumes version clients) = ⊥
MayFollow d _ = Unit {0}

-- Tables need only this of a grant: they can hold more handles than a client may have.
abbrev pub MayGive : Effects → ℕ → Node → ℕ → Type 0
MayGive d c n r = (is_live d c ≡ true) × (r ≡ number_for d c n) × (nat_lt (refs_at d c n + 1) GREATEST ≡ true)

-- The same, without the limit on counts of grants.
abbrev pub MayFollowApart : Effects → Effect → Type 0
MayFollowApart d (Gives c n r) =
    (is_live d c ≡ true) × (r ≡ number_for d c n) × ((n.owner.0 == c) ≡ false)
    × (fits_handles (Gives c n r ∷ d) c ≡ true)
MayFollowApart d x = MayFollow d x

-- Effects in order, oldest first, are added to others.
abbrev pub followed : Effects → List Effect → Effects
followed d [] = d
followed d (x ∷ xs) = followed (x ∷ d) xs

-- Each effect of a sequence may come next.
abbrev pub MayAll : Effects → List Effect → Type 0
MayAll d [] = Unit {0}
MayAll d (x ∷ xs) = MayFollow d x × MayAll (x ∷ d) xs

-- Each effect of a sequence may come next, without the limit on counts of grants.
abbrev pub MayAllApart : Effects → List Effect → Type 0
MayAllApart d [] = Unit {0}
MayAllApart d (x ∷ xs) = MayFollowApart d x × MayAllApart (x ∷ d) xs
