-- What a table of inboxes says of effects.
use Rattle.std.specs.Prelude.{ℕ, ◌≡◌, Bool, List, is_some}
use Rattle.sm_history.specs.declared.delivery.Delivery.{Delivery}
use Rattle.sm_history.specs.Effects.{Effects}
use Rattle.sm_history.specs.Inboxes.{inbox_at}
use Rattle.sm_history.specs.Sound.{IsTakenFrom}
use Rattle.sm_inbox.specs.declared.inbox.Inbox.{Inbox}
use Rattle.sm_inbox.specs.declared.inboxes.Inboxes.{Inboxes}
use Rattle.sm_inbox.specs.Rows.{inbox_of, waiting_in, room_in}

-- The table has an inbox for a client.
abbrev pub is_open : Inboxes → ℕ → Bool
is_open t c = is_some (inbox_of t.rows.items c)

-- These are a client's deliveries, oldest first.
abbrev pub deliveries_of : Inboxes → ℕ → List Delivery
deliveries_of t c = waiting_in (inbox_of t.rows.items c)

-- The table takes this many more deliveries to a client without an allocation; none if the client has no inbox.
abbrev pub room_of : Inboxes → ℕ → ℕ
room_of t c = room_in (inbox_of t.rows.items c)

-- The rows have the deliveries of the clients, and no more was taken than delivered.
pub record TracksRows (d : Effects) (rows : List Inbox) : Type 0 where
  pub taken : IsTakenFrom d
  pub queues : (c : ℕ) → waiting_in (inbox_of rows c) ≡ inbox_at d c

-- The table has the deliveries of the clients.
abbrev pub TracksInboxes : Effects → Inboxes → Type 0
TracksInboxes d t = TracksRows d t.rows.items
