-- Effects that may come next keep what holds of lawful histories.
use Rattle.std.proofs.Common.{ℕ, ◌∷◌, sym, subst}
use Rattle.sm_history.specs.Effects.{Effect, Effects, Opens, Sets, Connects, Dies, Adds, Removes, Gives, Releases}
use Rattle.sm_history.specs.Effects.{Watches, Unwatches, Delivers, Takes, Resumes}
use Rattle.sm_history.specs.Following.{MayFollow}
use Rattle.sm_history.proofs.Sound.{Numbers, sound_opens, sound_sets, sound_connects, sound_dies, sound_adds}
use Rattle.sm_history.proofs.Sound.{sound_removes, sound_gives, sound_releases, sound_watches, sound_unwatches}
use Rattle.sm_history.proofs.Sound.{sound_delivers, sound_takes}
use Rattle.sm_history.proofs.AgreeNotices.{number_for_is}
use Rattle.sm_history.specs.Sound.{Sound}

pub sound_follows : (d : Effects) (x : Effect) → Sound d → MayFollow d x → Sound (x ∷ d)
sound_follows d (Opens who) s m = sound_opens d who s
sound_follows d (Sets p) s m = sound_sets d p s
sound_follows d (Connects c who) s m = sound_connects d c who m s
sound_follows d (Dies c) s m = sound_dies d c m s
sound_follows d (Adds name t) s m = sound_adds d name t m s
sound_follows d (Removes name) s m = sound_removes d name s
sound_follows d (Gives c n r) s m = sound_gives d c n r m.0
    (subst (λ (k : ℕ). Numbers d c n k) (sym m.1) (number_for_is d c n)) s
sound_follows d (Releases c n) s m = sound_releases d c n m.0 m.1 s
sound_follows d (Watches w) s m = sound_watches d w m.0 s
sound_follows d (Unwatches w) s m = sound_unwatches d w m s
sound_follows d (Delivers c x) s m = sound_delivers d c x m.0 s
sound_follows d (Takes c) s m = sound_takes d c m s
sound_follows d (Resumes v n) s m = absurd m
