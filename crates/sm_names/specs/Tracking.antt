-- What a table of names says of effects, and its room.
use Rattle.std.specs.Prelude.{ℕ, ◌≡◌, ◌+◌, ◌≤◌, length}
use Rattle.std.specs.Vec.{vec_capacity}
use Rattle.sm_history.specs.Effects.{Effects}
use Rattle.sm_history.specs.Services.{watches_at}
use Rattle.sm_names.specs.declared.names.NameTable.{NameTable}
use Rattle.sm_names.specs.Rows.{TracksRows}
use Rattle.sm_names.specs.Watching.{TracksList}

-- The table has what the effects say of services and watches.
pub record TracksNames (d : Effects) (t : NameTable) : Type 0 where
  pub services : TracksRows d t.services.rows.items
  pub watches : TracksList d t.watches.list.items
  pub order : t.order.items ≡ watches_at d

-- n more names and watches need no allocation.
pub record HasRoom (n : ℕ) (t : NameTable) : Type 0 where
  pub services : length t.services.rows.items + n ≤ t.services.rows.capacity
  pub watches : length t.watches.list.items + n ≤ vec_capacity t.watches.list
  pub order : length t.order.items + n ≤ vec_capacity t.order

-- This is the number of watches of the table.
abbrev pub watch_count : NameTable → ℕ
watch_count t = length t.watches.list.items
