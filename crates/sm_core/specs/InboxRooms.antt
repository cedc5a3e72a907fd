-- The room left in the inboxes of notified clients.
use Rattle.std.specs.Prelude.{ℕ, ◌==◌, ◌≡◌, true, List, Option, map, nat_le, option_map}
use Rattle.std.specs.List.{find, list_all}
use Rattle.sm_history.specs.Once.{is_once}
use Rattle.sm_core.specs.declared.inbox_rooms.InboxRoom.{InboxRoom}

-- By a client's row, this many deliveries still fit into its inbox.
abbrev pub left_of : List InboxRoom → ℕ → Option ℕ
left_of rows c = option_map (λ r. r.left) (find (λ r. r.client == c) rows)

-- No two rows are one client's.
abbrev pub AreOnce : List InboxRoom → Type 0
AreOnce rows = is_once (map (λ r. r.client) rows) ≡ true

-- No row is of a client with a number greater than n.
abbrev pub AreUpTo : ℕ → List InboxRoom → Type 0
AreUpTo n rows = list_all (λ r. nat_le r.client n) rows ≡ true
