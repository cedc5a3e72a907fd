-- Effects of which the handles do not hear.
use Rattle.std.proofs.Common.{◌≡◌, ℕ, Bool, true, false, List, ◌∷◌, refl, sym, subst}
use Rattle.std.proofs.lemmas.Bool.{true≢false}
use Rattle.sm_values.specs.declared.identity.Identity.{Identity}
use Rattle.sm_history.specs.Effects.{Effects}
use Rattle.sm_history.specs.declared.effect.Effect.{Effect}
use Rattle.sm_history.specs.declared.effect.Effect.TheVariants.{Connects, Dies, Gives, Releases}
use Rattle.sm_history.specs.Holdings.{refs_at, number_at}
use Rattle.sm_history.proofs.Balanced.{step}
use Rattle.sm_history.specs.Clients.{live_clients}
use Rattle.sm_history.specs.Sound.{IsOnce}
use Rattle.sm_history.proofs.Sound.{once_more, none_live}
use Rattle.sm_history.proofs.AfterClients.{IsNew, list_connects}
use Rattle.sm_history.proofs.AfterHoldings.{refs_connects}
use Rattle.sm_grants.specs.declared.rows.ClientHandles.{ClientHandles}
use Rattle.sm_grants.specs.Rows.{TracksRows, slots_of}
use Rattle.sm_grants.proofs.Tracked.{tracked_same}

-- The effects that grants hear of.
abbrev pub is_heard : Effect → Bool
is_heard (Connects c who) = true
is_heard (Dies c) = true
is_heard (Gives c n r) = true
is_heard (Releases c n) = true
is_heard x = false

pub tracks_other : (x : Effect) (d : Effects) (rows : List ClientHandles) → is_heard x ≡ false → TracksRows d rows
    → TracksRows (x ∷ d) rows
tracks_other (Connects c who) d rows h tr = absurd (true≢false h)
tracks_other (Dies c) d rows h tr = absurd (true≢false h)
tracks_other (Gives c n r) d rows h tr = absurd (true≢false h)
tracks_other (Releases c n) d rows h tr = absurd (true≢false h)
tracks_other x d rows h tr =
    record { balanced = step x d (λ c n. refl) tr.balanced; live = tr.live; slots = tr.slots; once = tr.once }

-- A client connects that was never named before.
pub tracks_connects : (d : Effects) (c : ℕ) (who : Identity) (rows : List ClientHandles) → IsNew d c
    → TracksRows d rows → TracksRows (Connects c who ∷ d) rows
tracks_connects d c who rows new tr = record {
  balanced = step (Connects c who) d (λ k n. refl) tr.balanced;
  live = subst IsOnce (sym (list_connects d c who new)) (once_more c (live_clients d) (none_live d c new) tr.live);
  slots = λ k. tracked_same (refs_at d k) (number_at d k) (refs_at (Connects c who ∷ d) k)
      (number_at (Connects c who ∷ d) k) (slots_of rows k) (λ m. refs_connects d c who k m new) (λ m. refl)
      (tr.slots k);
  once = tr.once;
}
