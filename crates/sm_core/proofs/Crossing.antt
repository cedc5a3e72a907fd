-- What readers see of a manager crosses to other threads, and threads share it.
use denote.Param.Send as cross
use denote.Param.Send.{IsSend, IsSync, sendable, recorded_send, recorded_sync, struct_send, struct_sync}
use denote.Struct.Field as Field
use denote.Struct.Declared as struct
use Rattle.std.proofs.Crossing.{crosses, Arc-send, Arc-sync, Vec-send, Vec-sync}
use Rattle.std.specs.contracts.alloc.Global as Global
use Rattle.std.specs.contracts.impls.GlobalAllocator.TheImpl as Heap
use Rattle.std.specs.contracts.option.Option as Option
use Rattle.std.specs.contracts.snapshot.Snapshot as Snapshot
use Rattle.std.specs.contracts.sync.Arc as Arc
use Rattle.sm_policy.proofs.Crossing.{prepared_send, prepared_sync}
use Rattle.sm_history.specs.contracts.entry.Entry as Entry
use Rattle.sm_history.specs.contracts.turn.TurnRow as TurnRow
use Rattle.sm_history.proofs.turn.TurnRow.TheSendSync as TurnRowCrosses
use Rattle.sm_names.specs.contracts.services.Services as Services
use Rattle.sm_names.proofs.services.Services.TheSendSync as ServicesCross
use Rattle.sm_core.specs.contracts.client.LiveClient as LiveClient
use Rattle.sm_core.proofs.client.LiveClient.TheSendSync as ClientRowCrosses
use Rattle.sm_core.proofs.process.Process.TheSendSync as ProcessCrosses
use Rattle.sm_core.specs.contracts.turns.Turns as Turns
use Rattle.sm_core.proofs.turns.Turns.TheSendSync as TurnsCross
use Rattle.sm_core.specs.contracts.known_labels.KnownLabel as KnownLabel
use Rattle.sm_core.proofs.known_labels.KnownLabel.TheSendSync as KnownLabelCrosses
use Rattle.sm_core.specs.contracts.known_labels.LabelledPolicy as LabelledPolicy
use Rattle.sm_core.specs.contracts.known_labels.LabelledPolicy.TheInside as LabelledInside
use Rattle.sm_core.specs.contracts.principals.Principals as Principals
use Rattle.sm_core.specs.contracts.turn_counts.TurnCounts as TurnCounts
use Rattle.sm_core.specs.contracts.journal.Journal as Journal
use Rattle.sm_core.specs.contracts.view.View as View
use Rattle.sm_core.specs.contracts.view.View.TheInside as ViewInside
use Rattle.sm_core.specs.contracts.view_tables.ViewTables as ViewTables

pub global_send : IsSend Global.the_field.row
global_send = search (sendable, crosses) depth 20

pub global_sync : IsSync Global.the_field.row
global_sync = search (sendable, crosses) depth 20

pub u32_send : IsSend Field.u32-field.row
u32_send = search sendable depth 20

pub u32_sync : IsSync Field.u32-field.row
u32_sync = search sendable depth 20

pub u64_send : IsSend Field.u64-field.row
u64_send = search sendable depth 20

pub u64_sync : IsSync Field.u64-field.row
u64_sync = search sendable depth 20

turn_row_send : IsSend TurnRow.the_row
turn_row_send = search sendable depth 20

turn_row_sync : IsSync TurnRow.the_row
turn_row_sync = search sendable depth 20

pub client_send : IsSend LiveClient.the_row
client_send = recorded_send _ _ _ LiveClient.the_type.to_one ClientRowCrosses.the_field_send

client_sync : IsSync LiveClient.the_row
client_sync = recorded_sync _ _ _ LiveClient.the_type.to_one ClientRowCrosses.the_field_sync

turns_send : IsSend Turns.the_row
turns_send = recorded_send _ _ _ Turns.the_type.to_one TurnsCross.the_field_send

turns_sync : IsSync Turns.the_row
turns_sync = recorded_sync _ _ _ Turns.the_type.to_one TurnsCross.the_field_sync

known_send : IsSend KnownLabel.the_row
known_send = recorded_send _ _ _ KnownLabel.the_type.to_one KnownLabelCrosses.the_field_send

known_sync : IsSync KnownLabel.the_row
known_sync = recorded_sync _ _ _ KnownLabel.the_type.to_one KnownLabelCrosses.the_field_sync

slot_send : IsSend (Option.the_row KnownLabel.the_row)
slot_send = search (sendable, crosses, known_send) depth 20

slot_sync : IsSync (Option.the_row KnownLabel.the_row)
slot_sync = search (sendable, crosses, known_sync) depth 20

pub labelled_send : IsSend LabelledPolicy.the_row
labelled_send =
    cross.view_send LabelledInside.the_row _ _ _ _
    (recorded_send _ _ _ LabelledInside.the_type.to_one
    (struct_send (struct.shape LabelledInside.the_type)
    (global_send, (prepared_send, (Vec-send (Option.the_row KnownLabel.the_row) slot_send, tt)))))

pub labelled_sync : IsSync LabelledPolicy.the_row
labelled_sync =
    cross.view_sync LabelledInside.the_row _ _ _ _
    (recorded_sync _ _ _ LabelledInside.the_type.to_one
    (struct_sync (struct.shape LabelledInside.the_type)
    (global_sync, (prepared_sync, (Vec-sync (Option.the_row KnownLabel.the_row) slot_sync, tt)))))

principals_send : IsSend Principals.the_row
principals_send =
    recorded_send _ _ _ Principals.the_type.to_one
    (struct_send (struct.shape Principals.the_type)
    (ProcessCrosses.the_field_send, (labelled_send, (u64_send, (Vec-send LiveClient.the_row client_send, tt)))))

principals_sync : IsSync Principals.the_row
principals_sync =
    recorded_sync _ _ _ Principals.the_type.to_one
    (struct_sync (struct.shape Principals.the_type)
    (ProcessCrosses.the_field_sync, (labelled_sync, (u64_sync, (Vec-sync LiveClient.the_row client_sync, tt)))))

turn_counts_send : IsSend TurnCounts.the_field.row
turn_counts_send =
    struct_send (struct.shape TurnCounts.the_type)
    (Arc-send Turns.the_row turns_send turns_sync, (Vec-send TurnRow.the_row turn_row_send, tt))

turn_counts_sync : IsSync TurnCounts.the_field.row
turn_counts_sync =
    struct_sync (struct.shape TurnCounts.the_type)
    (Arc-sync Turns.the_row turns_send turns_sync, (Vec-sync TurnRow.the_row turn_row_sync, tt))

journal_send : IsSend (Snapshot.the_row Journal.the_row)
journal_send = search (sendable, crosses) depth 20

journal_sync : IsSync (Snapshot.the_row Journal.the_row)
journal_sync = search (sendable, crosses) depth 20

next_send : IsSend (Option.the_field (Snapshot.the_row Entry.the_row)).row
next_send = search (sendable, crosses) depth 20

next_sync : IsSync (Option.the_field (Snapshot.the_row Entry.the_row)).row
next_sync = search (sendable, crosses) depth 20

services_send : IsSend (Arc.the_row Services.the_row Global.the_row Heap.ghosts)
services_send = Arc-send Services.the_row ServicesCross.the_send ServicesCross.the_sync

services_sync : IsSync (Arc.the_row Services.the_row Global.the_row Heap.ghosts)
services_sync = Arc-sync Services.the_row ServicesCross.the_send ServicesCross.the_sync

view_tables_send : IsSend ViewTables.the_row
view_tables_send =
    recorded_send _ _ _ ViewTables.the_type.to_one
    (struct_send (struct.shape ViewTables.the_type) (
      Arc-send Principals.the_row principals_send principals_sync,
      (services_send, (turn_counts_send, tt)),
    ))

view_tables_sync : IsSync ViewTables.the_row
view_tables_sync =
    recorded_sync _ _ _ ViewTables.the_type.to_one
    (struct_sync (struct.shape ViewTables.the_type) (
      Arc-sync Principals.the_row principals_send principals_sync,
      (services_sync, (turn_counts_sync, tt)),
    ))

pub view_send : IsSend View.the_row
view_send =
    cross.view_send ViewInside.the_row _ _ _ _
    (recorded_send _ _ _ ViewInside.the_type.to_one
    (struct_send (struct.shape ViewInside.the_type) (
      global_send,
      (
        u32_send,
        (
          u64_send,
          (
            Arc-send ViewTables.the_row view_tables_send view_tables_sync,
            (TurnRowCrosses.the_field_send, (journal_send, (next_send, tt))),
          ),
        ),
      ),
    )))

pub view_sync : IsSync View.the_row
view_sync =
    cross.view_sync ViewInside.the_row _ _ _ _
    (recorded_sync _ _ _ ViewInside.the_type.to_one
    (struct_sync (struct.shape ViewInside.the_type) (
      global_sync,
      (
        u32_sync,
        (
          u64_sync,
          (
            Arc-sync ViewTables.the_row view_tables_send view_tables_sync,
            (TurnRowCrosses.the_field_sync, (journal_sync, (next_sync, tt))),
          ),
        ),
      ),
    )))
