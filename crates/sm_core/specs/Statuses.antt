-- Rows of live clients, as a state has them.
use Rattle.std.specs.Prelude.{length}
use Rattle.sm_history.specs.Histories.{History, effects_of, turn_of}
use Rattle.sm_history.specs.Holdings.{held_nodes}
use Rattle.sm_history.specs.Inboxes.{inbox_at}
use Rattle.sm_history.specs.Segments.{client}
use Rattle.sm_status.specs.declared.client_status.ClientStatus.{ClientStatus}
use Rattle.sm_core.specs.declared.client.LiveClient.{LiveClient}

-- This is what a history says of the client of a row.
abbrev pub row_status : History → LiveClient → ClientStatus
row_status h r = record {
  client = r.id;
  who = r.process.who;
  turns = turn_of h (client r.id);
  handles = length (held_nodes (effects_of h) r.id);
  deliveries = length (inbox_at (effects_of h) r.id);
}
