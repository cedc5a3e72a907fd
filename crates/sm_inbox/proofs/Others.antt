-- Effects that inboxes don't hear of.
use Rattle.std.proofs.Common.{◌≡◌, ℕ, Bool, true, false, ◌∷◌, sym, ◌∙◌}
use Rattle.std.proofs.lemmas.Bool.{true≢false}
use Rattle.sm_values.specs.declared.identity.Identity.{Identity}
use Rattle.sm_history.specs.declared.effect.Effect.{Effect}
use Rattle.sm_history.specs.declared.effect.Effect.TheVariants.{Connects, Dies, Delivers, Takes}
use Rattle.sm_history.specs.Effects.{Effects}
use Rattle.sm_history.proofs.AfterClients.{IsNew}
use Rattle.sm_history.proofs.AfterInboxes.{inbox_connects}
use Rattle.sm_inbox.specs.declared.inboxes.Inboxes.{Inboxes}
use Rattle.sm_inbox.specs.Tracking.{TracksInboxes}

-- The effects that inboxes hear of.
abbrev pub is_heard : Effect → Bool
is_heard (Connects c who) = true
is_heard (Dies c) = true
is_heard (Delivers c x) = true
is_heard (Takes c) = true
is_heard x = false

pub tracks_other : (x : Effect) (d : Effects) (t : Inboxes) → is_heard x ≡ false → TracksInboxes d t
    → TracksInboxes (x ∷ d) t
tracks_other (Connects c who) d t h tr = absurd (true≢false h)
tracks_other (Dies c) d t h tr = absurd (true≢false h)
tracks_other (Delivers c x) d t h tr = absurd (true≢false h)
tracks_other (Takes c) d t h tr = absurd (true≢false h)
tracks_other _ d t h tr = record { taken = tr.taken; queues = tr.queues }

-- A client connects that no effect named before.
pub tracks_connects : (d : Effects) (c : ℕ) (who : Identity) (t : Inboxes) → IsNew d c → TracksInboxes d t
    → TracksInboxes (Connects c who ∷ d) t
tracks_connects d c who t new tr =
    record { taken = tr.taken; queues = λ k. tr.queues k ∙ sym (inbox_connects d c who k new) }
