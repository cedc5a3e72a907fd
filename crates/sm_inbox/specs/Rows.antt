-- The rows of a table of inboxes.
use Rattle.std.specs.Prelude.{ℕ, ◌-◌, ◌≡◌, ◌==◌, true, List, [], Option, Some, None, length, map}
use Rattle.std.specs.List.{find}
use Rattle.sm_history.specs.declared.delivery.Delivery.{Delivery}
use Rattle.sm_history.specs.declared.limits.TheConstants.{MOST_DELIVERIES}
use Rattle.sm_history.specs.Once.{is_once}
use Rattle.sm_inbox.specs.declared.inbox.Inbox.{Inbox}

-- This is the first row of a client.
abbrev pub inbox_of : List Inbox → ℕ → Option Inbox
inbox_of rows c = find (λ r. r.client == c) rows

-- No two rows are one client's.
abbrev pub AreOnce : List Inbox → Type 0
AreOnce rows = is_once (map (λ r. r.client) rows) ≡ true

-- These are the deliveries of an inbox, oldest first; there are none without an inbox.
abbrev pub waiting_in : Option Inbox → List Delivery
waiting_in None = []
waiting_in (Some r) = r.waiting.items

-- An inbox has room for this many more deliveries; without an inbox, for none.
abbrev pub room_in : Option Inbox → ℕ
room_in None = 0
room_in (Some r) = MOST_DELIVERIES - length r.waiting.items
