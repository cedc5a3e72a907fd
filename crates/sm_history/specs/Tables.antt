-- Tables by client: what they say of effects, and their rows.
use Rattle.std.specs.Prelude.{ℕ, ◌≡◌, ◌==◌, List, Option, Some, None, map, filter_map, option_map}
use Rattle.std.specs.Prelude.{◌<◌, ◌-◌, false, nat_le, if◌then◌else◌, length, bytes_eq, insert, remove}
use Rattle.std.specs.Prelude.{slice_index_or, slice_set}
use Rattle.std.specs.List.{find, flat_map, range_with_len}
use Rattle.std.proofs.Common.{get_or}
use Rattle.sm_values.specs.declared.identity.Identity.{Identity}
use Rattle.sm_policy.specs.Policy.{Policy, no_policy}
use Rattle.sm_history.specs.declared.service.Service.{Service}
use Rattle.sm_history.specs.declared.held.Held.{Held}
use Rattle.sm_history.specs.declared.client_row.ClientRow.{ClientRow}
use Rattle.sm_history.specs.declared.tables.Tables.{Tables}
use Rattle.sm_history.specs.Effects.{Effects}
use Rattle.sm_history.specs.Clients.{nobody, policy_at, version_at, manager_at, clients_made, live_clients, identity_at}
use Rattle.sm_history.specs.Holdings.{refs_at, node_at}
use Rattle.sm_history.specs.Services.{service_at, watches_at}
use Rattle.sm_history.specs.Inboxes.{inbox_at}
use Rattle.sm_history.specs.Rising.{IsRising}
use Rattle.sm_history.specs.Sound.{Sound}
use Rattle.sm_history.specs.Rows.{Rows, LiveRow, HeldRow, NamedRow, WaitingRow, waiting_row}

-- ---- the parts

-- A client's slots have what it holds under each number.
abbrev pub Slots : Type 0
Slots = List (Option Held)

-- This is what a slot has.
abbrev pub slot : Slots → ℕ → Option Held
slot s k = get_or s k None

-- Only slot k changed, to x.
abbrev pub IsPut : Slots → Slots → ℕ → Option Held → Type 0
IsPut old new k x = (j : ℕ) → slot new j ≡ (if j == k then x else slot old j)

-- This is the first row of a client.
abbrev pub client_row_of : List ClientRow → ℕ → Option ClientRow
client_row_of rows c = find (λ r. r.client == c) rows

-- This is the first row of a name.
abbrev pub row_in : List NamedRow → List ℕ → Option NamedRow
row_in rows name = find (λ r. bytes_eq r.name name) rows

-- This is the service of a row.
abbrev pub service_of : Option NamedRow → Option Service
service_of o = option_map (λ r. r.service) o

-- These are the names of rows.
abbrev pub names_of : List NamedRow → List (List ℕ)
names_of rows = map (λ r. r.name) rows

-- These are the clients of rows.
abbrev pub clients_of : List ClientRow → List ℕ
clients_of rows = map (λ r. r.client) rows

-- This is the manager's identity, or `nobody` before its opening.
abbrev pub manager_of : Option Identity → Identity
manager_of None = nobody
manager_of (Some who) = who

-- This is the policy in force, or `no_policy` before the opening.
abbrev pub policy_of : Option Policy → Policy
policy_of None = no_policy
policy_of (Some p) = p

-- Only the row of client c changed, to o. `key` is the client of a row.
pub record IsChanged {R : Type 0} (key : R → ℕ) (rows rows' : List R) (c : ℕ) (o : Option R) : Type 0 where
  pub own : find (λ r. key r == c) rows' ≡ o
  pub other : (k : ℕ) → (c == k) ≡ false → find (λ r. key r == k) rows' ≡ find (λ r. key r == k) rows

-- The row of client c has index i, so writing there changes only that client's row.
pub record IsPlace {R : Type 0} (key : R → ℕ) (rows : List R) (c i : ℕ) : Type 0 where
  pub inside : i < length rows
  pub here : (r : R) → find (λ r. key r == c) rows ≡ Some (slice_index_or rows i r)
  pub own : (r : R) → key (slice_index_or rows i r) ≡ c
  pub written : (r : R) → key r ≡ c → IsChanged key rows (slice_set rows i r) c (Some r)

-- Client c has no row, or has one with index i.
abbrev pub IsFound : {R : Type 0} → (R → ℕ) → List R → ℕ → Option ℕ → Type 0
IsFound key rows c None = find (λ r. key r == c) rows ≡ None
IsFound {R} key rows c (Some i) = (i < length rows) × ((r : R) → key (slice_index_or rows i r) ≡ c)

-- Only the row of a name changed, to o, and the names still rise.
pub record IsNameChanged (rows rows' : List NamedRow) (name : List ℕ) (o : Option NamedRow) : Type 0 where
  pub own : row_in rows' name ≡ o
  pub other : (q : List ℕ) → bytes_eq name q ≡ false → row_in rows' q ≡ row_in rows q
  pub rises : IsRising (names_of rows')

-- The row of a name has index i, so writing or removing there changes only that name's row.
pub record IsNamePlace (rows : List NamedRow) (name : List ℕ) (i : ℕ) : Type 0 where
  pub inside : i < length rows
  pub here : (r : NamedRow) → row_in rows name ≡ Some (slice_index_or rows i r)
  pub own : (r : NamedRow) → (slice_index_or rows i r).name ≡ name
  pub written : (r : NamedRow) → r.name ≡ name → IsNameChanged rows (slice_set rows i r) name (Some r)
  pub removed : IsNameChanged rows (remove rows i) name None

-- A name has no row, and i is the index where its row is to be inserted.
pub record IsNameGap (rows : List NamedRow) (name : List ℕ) (i : ℕ) : Type 0 where
  pub none : row_in rows name ≡ None
  pub inserted : (r : NamedRow) → r.name ≡ name → IsNameChanged rows (insert rows i r) name (Some r)

-- ---- the rows of tables

-- This is a client's row, without what it holds and its inbox.
abbrev pub live_of : ClientRow → LiveRow
live_of r = record { client = r.client; who = r.who }

-- This is the row of a held object.
abbrev pub slot_row : ℕ → ℕ → Held → HeldRow
slot_row c k h = record { client = c; node = h.node; number = k; count = h.count }

-- This is the row of what a slot has, if anything.
abbrev pub slot_under : ℕ → Slots → ℕ → Option HeldRow
slot_under c s k = option_map (slot_row c k) (slot s k)

-- These are the rows of all that a client holds.
abbrev pub held_of : ClientRow → List HeldRow
held_of r = filter_map (slot_under r.client r.held.items) (range_with_len 0 (length r.held.items))

-- These are the rows of a client's inbox.
abbrev pub waiting_of : ClientRow → List WaitingRow
waiting_of r = map (waiting_row r.client) r.waiting.items

-- These are the rows of tables.
abbrev pub tables_of : Tables → Rows
tables_of t = record {
  manager = manager_of t.manager;
  policy = policy_of t.policy;
  version = t.version;
  clients = t.clients;
  live = map live_of t.live.items;
  held = flat_map held_of t.live.items;
  names = t.names.items;
  watches = t.watches.items;
  waiting = flat_map waiting_of t.live.items;
}

-- A slot changes so by one release.
abbrev pub released_slot : Option Held → Option Held
released_slot None = None
released_slot (Some h) = if nat_le h.count 1 then None else Some (record { node = h.node; count = h.count - 1 })

-- ---- tables and effects

-- A client's slot has this after effects.
abbrev pub slot_at : Effects → ℕ → ℕ → Option Held
slot_at d c k = option_map (λ n. record { node = n; count = refs_at d c n }) (node_at d c k)

-- A row is that of client c after effects.
pub record IsClient (d : Effects) (c : ℕ) (r : ClientRow) : Type 0 where
  pub who : r.who ≡ identity_at d c
  pub held : (k : ℕ) → slot r.held.items k ≡ slot_at d c k
  pub waiting : r.waiting.items ≡ inbox_at d c

-- A row, if there is one, is that of client c.
abbrev pub IsRowFor : Effects → ℕ → Option ClientRow → Type 0
IsRowFor d c None = Unit {0}
IsRowFor d c (Some r) = IsClient d c r

-- The rows are those of the live clients.
pub record TracksClients (d : Effects) (rows : List ClientRow) : Type 0 where
  pub ids : clients_of rows ≡ live_clients d
  pub each : (c : ℕ) → IsRowFor d c (client_row_of rows c)

-- The rows are the services of names.
pub record TracksNames (d : Effects) (rows : List NamedRow) : Type 0 where
  pub services : (name : List ℕ) → service_of (row_in rows name) ≡ service_at d name
  pub rises : IsRising (names_of rows)

-- The tables are those that the effects left.
pub record TracksTables (d : Effects) (t : Tables) : Type 0 where
  pub manager : manager_of t.manager ≡ manager_at d
  pub policy : policy_of t.policy ≡ policy_at d
  pub version : t.version ≡ version_at d
  pub clients : t.clients ≡ clients_made d
  pub live : TracksClients d t.live.items
  pub names : TracksNames d t.names.items
  pub watches : t.watches.items ≡ watches_at d

-- The tables are those that some sound effects leave.
abbrev pub AreLeft : Tables → Type 0
AreLeft t = (d : Effects) × Sound d × TracksTables d t
