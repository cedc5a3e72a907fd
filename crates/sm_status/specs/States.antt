-- The state of a manager: what a history left, in numbers, names and watches.
use Rattle.std.specs.Prelude.{ℕ, ◌-◌, List, map, filter_map, length}
use Rattle.sm_policy.specs.Policy.{Policy}
use Rattle.sm_history.specs.Clients.{policy_at, version_at, live_clients, identity_at}
use Rattle.sm_history.specs.declared.effect.Watch.{Watch}
use Rattle.sm_history.specs.declared.named_row.NamedRow.{NamedRow}
use Rattle.sm_history.specs.Histories.{History, length_of, turn_of, effects_of}
use Rattle.sm_history.specs.Holdings.{held_nodes}
use Rattle.sm_history.specs.Inboxes.{inbox_at}
use Rattle.sm_history.specs.Rows.{named_under}
use Rattle.sm_history.specs.Segments.{client}
use Rattle.sm_history.specs.Services.{current_names, watches_at}
pub use Rattle.sm_status.specs.declared.client_status.ClientStatus.{ClientStatus}

-- A state has these parts.
pub record State : Type 0 where
  pub version : ℕ
  pub length : ℕ
  pub seals : ℕ
  pub used : ℕ  -- slots of the open segment
  pub policy : Policy
  pub clients : List ClientStatus  -- live ones, by number
  pub names : List NamedRow  -- in rising byte order
  pub watches : List Watch  -- oldest first

-- This is what a history says of live client c: its process, and how many changes, handles and deliveries it has.
abbrev pub client_state : History → ℕ → ClientStatus
client_state h c = record {
  client = c;
  who = identity_at (effects_of h) c;
  turns = turn_of h (client c);
  handles = length (held_nodes (effects_of h) c);
  deliveries = length (inbox_at (effects_of h) c);
}

-- This is the state that a history left. Segments are numbered from 1, and each seal begins one.
abbrev pub state_of : History → State
state_of h = record {
  version = version_at (effects_of h);
  length = length_of h;
  seals = h.number - 1;
  used = length h.entries;
  policy = policy_at (effects_of h);
  clients = map (client_state h) (live_clients (effects_of h));
  names = filter_map (named_under (effects_of h)) (current_names (effects_of h));
  watches = watches_at (effects_of h);
}
