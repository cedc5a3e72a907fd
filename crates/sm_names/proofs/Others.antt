-- Effects that names don't hear of.
use Rattle.std.proofs.Common.{◌≡◌, ℕ, Bool, true, false, List, ◌∷◌, refl, ap, sym, ◌∙◌}
use Rattle.std.specs.Prelude.{bytes_eq, filter, count_by}
use Rattle.std.proofs.lemmas.Bool.{true≢false}
use Rattle.sm_values.specs.declared.identity.Identity.{Identity}
use Rattle.sm_history.specs.declared.effect.Watch.{Watch}
use Rattle.sm_history.specs.declared.effect.Effect.{Effect}
use Rattle.sm_history.specs.declared.effect.Effect.TheVariants.{Connects, Dies, Adds, Removes, Watches, Unwatches}
use Rattle.sm_history.specs.Effects.{Effects}
use Rattle.sm_history.specs.Clients.{next_client}
use Rattle.sm_history.specs.Services.{service_at, watches_at}
use Rattle.sm_history.specs.Sound.{IsFresh, IsOwned}
use Rattle.sm_history.proofs.Sound.{is_new}
use Rattle.sm_history.proofs.AfterNames.{service_connects}
use Rattle.sm_history.proofs.AfterWatches.{watches_connects}
use Rattle.sm_history.specs.declared.named_row.NamedRow.{NamedRow}
use Rattle.sm_names.specs.declared.names.NameTable.{NameTable}
use Rattle.sm_names.specs.Rows.{TracksRows}
use Rattle.sm_names.specs.Watching.{TracksList}
use Rattle.sm_names.specs.Tracking.{TracksNames}

-- The effects that names hear of.
abbrev pub is_heard : Effect → Bool
is_heard (Connects c who) = true
is_heard (Dies c) = true
is_heard (Adds name s) = true
is_heard (Removes name) = true
is_heard (Watches w) = true
is_heard (Unwatches w) = true
is_heard x = false

pub same_rows : (x : Effect) (d : Effects) (rows : List NamedRow)
    → ((name : List ℕ) → service_at (x ∷ d) name ≡ service_at d name) → TracksRows d rows → TracksRows (x ∷ d) rows
same_rows x d rows same tr = record { services = λ name. tr.services name ∙ sym (same name); rises = tr.rises }

pub same_list : (x : Effect) (d : Effects) (ws : List Watch) → watches_at (x ∷ d) ≡ watches_at d → TracksList d ws
    → TracksList (x ∷ d) ws
same_list x d ws same tr = record {
  watchers = λ name. tr.watchers name ∙ sym (ap (filter (λ (w : Watch). bytes_eq w.name name)) same);
  counts = λ q. tr.counts q ∙ sym (ap (count_by q) same);
  ordered = tr.ordered;
}

tracks_same : (x : Effect) (d : Effects) (t : NameTable)
    → ((name : List ℕ) → service_at (x ∷ d) name ≡ service_at d name) → watches_at (x ∷ d) ≡ watches_at d
    → TracksNames d t → TracksNames (x ∷ d) t
tracks_same x d t services watches tr = record {
  services = same_rows x d t.services.rows.items services tr.services;
  watches = same_list x d t.watches.list.items watches tr.watches;
  order = tr.order ∙ sym watches;
}

pub tracks_other : (x : Effect) (d : Effects) (t : NameTable) → is_heard x ≡ false → TracksNames d t
    → TracksNames (x ∷ d) t
tracks_other (Connects c who) d t h tr = absurd (true≢false h)
tracks_other (Dies c) d t h tr = absurd (true≢false h)
tracks_other (Adds name s) d t h tr = absurd (true≢false h)
tracks_other (Removes name) d t h tr = absurd (true≢false h)
tracks_other (Watches w) d t h tr = absurd (true≢false h)
tracks_other (Unwatches w) d t h tr = absurd (true≢false h)
tracks_other x d t h tr = tracks_same x d t (λ name. refl) refl tr

-- The next client connects: no effect named it before, and it owns no service.
pub tracks_connects : (d : Effects) (c : ℕ) (who : Identity) (t : NameTable) → c ≡ next_client d → IsFresh d → IsOwned d
    → TracksNames d t → TracksNames (Connects c who ∷ d) t
tracks_connects d c who t is fresh owned tr =
    tracks_same (Connects c who) d t (λ name. service_connects d c who name is owned)
    (watches_connects d c who (is_new d c is fresh)) tr
