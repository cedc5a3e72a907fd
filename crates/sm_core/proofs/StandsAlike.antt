-- Tables of effects are also those of all effects that leave the same.
use Rattle.std.proofs.Common.{Some, ◌-◌, ◌≡◌, ℕ, ◌+◌, ◌<◌, Bool, true, false, List, [], ◌∷◌, refl, ap, sym, subst, ◌∙◌}
use Rattle.std.proofs.Common.{map, if◌then◌else◌, arith}
use Rattle.std.specs.Prelude.{nat_lt, filter, bytes_eq, reverse, filter_map, count_by}
use Rattle.std.proofs.lemmas.Bool.Decides.{nat_tests}
use Rattle.sm_values.specs.declared.identity.Identity.{Identity}
use Rattle.sm_policy.specs.Policy.{Policy}
use Rattle.sm_history.specs.declared.effect.Watch.{Watch}
use Rattle.sm_history.specs.Agreeing.{Agree}
use Rattle.sm_history.specs.Effects.{Effects}
use Rattle.sm_history.specs.Clients.{connected, identity_at, is_live, manager_at, policy_at}
use Rattle.sm_history.specs.Holdings.{refs_at}
use Rattle.sm_history.specs.Rows.{resumed, rows_at}
use Rattle.sm_history.specs.Sound.{Sound}
use Rattle.sm_history.specs.Histories.{History, effects_of}
use Rattle.sm_history.specs.Segments.{sealed}
use Rattle.sm_history.proofs.RowsSound.{sim_rows}
use Rattle.sm_history.specs.Tables.{Slots, slot}
use Rattle.sm_grants.specs.Slots.{node_of}
use Rattle.sm_grants.specs.Tracking.{TracksSlots}
use Rattle.sm_grants.specs.Rows.{TracksRows, slots_of}
use Rattle.sm_grants.specs.declared.rows.ClientHandles.{ClientHandles}
use Rattle.sm_names.specs.declared.names.NameTable.{NameTable}
use Rattle.sm_history.specs.declared.named_row.NamedRow.{NamedRow}
use Rattle.sm_names.specs.Rows.{TracksRows as TracksServices}
use Rattle.sm_names.specs.Tracking.{TracksNames}
use Rattle.sm_inbox.specs.declared.inboxes.Inboxes.{Inboxes}
use Rattle.sm_inbox.specs.Tracking.{TracksInboxes}
use Rattle.sm_core.specs.declared.client.LiveClient.{LiveClient}
use Rattle.sm_core.specs.declared.principals.Principals.{Principals}
use Rattle.sm_core.specs.declared.process.Process.{Process}
use Rattle.sm_core.specs.declared.state.State.{State}
use Rattle.sm_core.specs.Stands.{Stands, StandPrincipals}
use Rattle.sm_core.specs.Tables.{process_under, process_at, client_row, client_rows, row_of}

lt_test : (a : ℕ) → 0 < a → nat_lt 0 a ≡ true
lt_test a h = grind (arith, nat_tests)

slots_alike : (d e : Effects) (c : ℕ) (s : Slots) → Agree d e → TracksSlots d c s → TracksSlots e c s
slots_alike d e c s a t = record {
  held = λ i h at.
      let w = t.held i h at in
      let more = w.1 in
      let is = w.0 in
      let some : 0 < refs_at d c h.node = omega (arith, more, is) in (
        sym (a.refs c h.node) ∙ w.0,
        w.1,
        sym (a.numbers c h.node (lt_test (refs_at d c h.node) some)) ∙ w.2,
      );
  found = λ n some.
      let same = a.refs c n in
      let had : 0 < refs_at d c n = omega (arith, some, same) in
      subst (λ (k : ℕ). node_of (slot s (k - 1)) ≡ Some n) (a.numbers c n (lt_test (refs_at d c n) had))
      (t.found n had);
}

grants_alike : (d e : Effects) (rows : List ClientHandles) → Agree d e → Sound e → TracksRows d rows → TracksRows e rows
grants_alike d e rows a s tr = record {
  balanced = s.balanced;
  live = s.once;
  slots = λ c. slots_alike d e c (slots_of rows c) a (tr.slots c);
  once = tr.once;
}

pub services_alike : (d e : Effects) (rows : List NamedRow) → Agree d e → TracksServices d rows
    → TracksServices e rows
services_alike d e rows a tr = record {
  services = λ name. tr.services name ∙ a.services name;
  rises = tr.rises;
}

names_alike : (d e : Effects) (t : NameTable) → Agree d e → TracksNames d t → TracksNames e t
names_alike d e t a tr = record {
  services = services_alike d e t.services.rows.items a tr.services;
  watches = record {
    watchers = λ name. tr.watches.watchers name
        ∙ ap (filter (λ (w : Watch). bytes_eq w.name name)) a.watches;
    counts = λ q. tr.watches.counts q ∙ ap (count_by q) a.watches;
    ordered = tr.watches.ordered;
  };
  order = tr.order ∙ a.watches;
}

inboxes_alike : (d e : Effects) (t : Inboxes) → Agree d e → Sound e → TracksInboxes d t → TracksInboxes e t
inboxes_alike d e t a s tr = record { taken = s.taken; queues = λ c. tr.queues c ∙ a.inboxes c }

process_alike : (d e : Effects) (who : Identity) → Agree d e → process_at d who ≡ process_at e who
process_alike d e who a = ap (λ (p : Policy). process_under p who) a.policy

map_filtered : (p : ℕ → Bool) (f g : ℕ → LiveClient) (ks : List ℕ) → ((k : ℕ) → p k ≡ true → f k ≡ g k)
    → map f (filter p ks) ≡ map g (filter p ks)
map_filtered p f g [] same = refl
map_filtered p f g (k ∷ ks) same =
    let rest = map_filtered p f g ks same in
    elim (p k) as (λ b. p k ≡ b → map f (if b then k ∷ filter p ks else filter p ks)
    ≡ map g (if b then k ∷ filter p ks else filter p ks)) [
      | true ↦ λ e. ap (λ (r : LiveClient). r ∷ map f (filter p ks)) (same k e)
          ∙ ap (λ (rs : List LiveClient). g k ∷ rs) rest
      | false ↦ λ e. rest
    ] refl

rows_alike : (d e : Effects) → Agree d e → client_rows d ≡ client_rows e
rows_alike d e a =
    map_filtered (is_live d) (client_row d) (client_row e) (reverse (filter_map connected d)) (λ k live.
    ap (λ (who : Identity). row_of (policy_at d) (manager_at d) k who) (a.who k live)
    ∙ ap (λ (p : Policy). row_of p (manager_at d) k (identity_at e k)) a.policy
    ∙ ap (λ (m : Identity). row_of (policy_at e) m k (identity_at e k)) a.manager)
    ∙ ap (map (client_row e)) a.live_list

pub principals_alike : (d e : Effects) (p : Principals) → Agree d e → StandPrincipals d p → StandPrincipals e p
principals_alike d e p a s = record {
  manager = s.manager ∙ process_alike d e (manager_at d) a ∙ ap (process_at e) a.manager;
  policy = s.policy ∙ a.policy;
  version = s.version ∙ a.version;
  clients = s.clients ∙ rows_alike d e a;
}

pub stands_alike : (d e : Effects) (s : State) → Agree d e → Sound e → Stands d s → Stands e s
stands_alike d e s a sound t = record {
  sound = sound;
  principals = principals_alike d e s.principals a t.principals;
  next = t.next ∙ ap (λ (n : ℕ). n + 1) a.clients;
  names = names_alike d e s.names a t.names;
  grants = grants_alike d e s.grants.rows.items a sound t.grants;
  inboxes = inboxes_alike d e s.inboxes a sound t.inboxes;
  open_ = λ c live. t.open_ c (a.lives c ∙ live);
  foreign = λ c n held. t.foreign c n (ap (nat_lt 0) (a.refs c n) ∙ held);
}

-- The tables are those after a seal.
pub stands_sealed : (h : History) (s : State) → Stands (effects_of h) s → Stands (effects_of (sealed h)) s
stands_sealed h s t =
    let d = effects_of h in
    let sim = sim_rows d t.sound in
    stands_alike d (resumed (rows_at d)) s sim.agree sim.right t
