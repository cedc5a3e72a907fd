use Rattle.std.proofs.Common.{◌≡◌, ◌+◌, ◌≤◌, ◌⊎◌, ℕ, true, drop, length}
use Rattle.std.specs.List.{list_any}
use Rattle.std.specs.Vec.{vec_capacity}
use Rattle.sm_history.specs.Effects.{Effects}
use Rattle.sm_history.specs.Clients.{is_connect_of}
use Rattle.sm_grants.specs.Rows.{spare_for}
use Rattle.sm_inbox.specs.Tracking.{is_open}
use Rattle.sm_names.specs.Tracking.{HasRoom as HasNameRoom}
use Rattle.sm_core.specs.Stands.{Stands, gives_to, is_connect, is_named}
use Rattle.sm_core.proofs.state.State.reserve.Given as goal

-- What the effects so far need has room, and what the others need gets it further on.
abbrev pub invariant-loop-effect : goal.invariant-loop-effect
invariant-loop-effect l = record {
  stands : (d : Effects) → Stands d l.fn.self → Stands d l.self;
  others : (l.self.principals.version ≡ l.initial.self.principals.version) × (l.self.next ≡ l.initial.self.next);
  clients : list_any is_connect l.effects ≡ true
      → (length l.self.principals.clients.items + length l.effects ≤ vec_capacity l.self.principals.clients)
      ⊎ (list_any is_connect (drop l.effect-index l.effects) ≡ true);
  names : list_any is_named l.effects ≡ true → HasNameRoom (length l.effects) l.self.names
      ⊎ (list_any is_named (drop l.effect-index l.effects) ≡ true);
  handles : (c : ℕ) → list_any (gives_to c) l.effects ≡ true
      → (length l.effects ≤ spare_for l.self.grants c)
      ⊎ (list_any (gives_to c) (drop l.effect-index l.effects) ≡ true);
  inboxes : (c : ℕ) → list_any (is_connect_of c) l.effects ≡ true
      → (is_open l.self.inboxes c ≡ true)
      ⊎ (list_any (is_connect_of c) (drop l.effect-index l.effects) ≡ true);
}
