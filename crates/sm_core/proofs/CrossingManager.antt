-- A manager crosses to another thread.
use denote.Param.Send as cross
use denote.Param.Send.{IsSend, IsSync, sendable, recorded_send, recorded_sync, struct_send, enum_send}
use denote.Struct.Field as Field
use denote.Struct.Declared as struct
use denote.Enum.Declared as enum
use Rattle.std.proofs.Crossing.{crosses, Vec-send}
use Rattle.sm_values.proofs.identity.Identity.TheSendSync as Identity
use Rattle.sm_values.proofs.name.Name.TheSendSync as Name
use Rattle.sm_values.proofs.payload.Payload.TheSendSync as Payload
use Rattle.sm_values.proofs.refs.Refs.TheSendSync as Refs
use Rattle.sm_values.proofs.number.Node.TheSendSync as Node
use Rattle.sm_values.proofs.number.ObjRef.TheSendSync as ObjRef
use Rattle.sm_policy.proofs.Crossing.{prepared_send}
use Rattle.sm_history.specs.contracts.by.By as By
use Rattle.sm_history.specs.contracts.event.Event as Event
use Rattle.sm_history.specs.contracts.entry.Entry as Entry
use Rattle.sm_history.specs.contracts.effect.Effect as Effect
use Rattle.sm_history.specs.contracts.records.Record as Record
use Rattle.sm_history.proofs.records.Record.TheSendSync as RecordCrosses
use Rattle.sm_history.specs.contracts.delivery.Delivery as Delivery
use Rattle.sm_history.proofs.delivery.Delivery.TheSendSync as DeliveryCrosses
use Rattle.sm_history.proofs.effect.WatchPair.TheSendSync as WatchPair
use Rattle.sm_history.proofs.service.Service.TheSendSync as Service
use Rattle.sm_history.proofs.shared.Shared.TheSendSync as SharedCrosses
use Rattle.sm_history.proofs.outcome.Outcome.TheSendSync as Outcome
use Rattle.sm_names.proofs.names.NameTable.TheSendSync as NameTable
use Rattle.sm_grants.proofs.grants.Grants.TheSendSync as Grants
use Rattle.sm_inbox.proofs.inboxes.Inboxes.TheSendSync as Inboxes
use Rattle.sm_audit.proofs.ring.Ring.TheSendSync as Ring
use Rattle.sm_core.specs.contracts.client.LiveClient as LiveClient
use Rattle.sm_core.proofs.process.Process.TheSendSync as Process
use Rattle.sm_core.proofs.turns.Turns.TheSendSync as Turns
use Rattle.sm_history.specs.contracts.sequence.Sequence as Sequence
use Rattle.sm_history.proofs.sequence.Sequence.TheSendSync as SequenceCrosses
use Rattle.sm_core.specs.contracts.journal.Journal as Journal
use Rattle.sm_core.specs.contracts.journal.Journal.TheInside as JournalInside
use Rattle.std.specs.contracts.option.Option as Option
use Rattle.sm_history.specs.contracts.client_row.ClientRow as Rowed
use Rattle.sm_history.proofs.client_row.ClientRow.TheSendSync as RowedCrosses
use Rattle.sm_history.specs.contracts.named_row.NamedRow as Named
use Rattle.sm_history.proofs.named_row.NamedRow.TheSendSync as NamedCrosses
use Rattle.sm_history.specs.contracts.effect.Watch as Watch
use Rattle.sm_history.proofs.effect.Watch.TheSendSync as WatchCrosses
use Rattle.sm_history.specs.contracts.turn.TurnRow as Turn
use Rattle.sm_history.proofs.turn.TurnRow.TheSendSync as TurnCrosses
use Rattle.sm_values.specs.contracts.identity.Identity as Who
use Rattle.sm_policy.specs.contracts.prepared.Prepared as Prepared
use Rattle.sm_history.specs.contracts.tables.Tables as Tables
use Rattle.sm_history.specs.contracts.rows.Rows as Rows
use Rattle.sm_history.specs.contracts.rows.Rows.TheInside as RowsInside
use Rattle.sm_core.specs.contracts.principals.Principals as Principals
use Rattle.sm_core.specs.contracts.state.State as State
use Rattle.sm_core.specs.contracts.draft.Draft as Draft
use Rattle.sm_core.specs.contracts.ledger.Ledger as Ledger
use Rattle.sm_core.specs.contracts.ledger.Ledger.TheInside as LedgerInside
use Rattle.sm_core.specs.contracts.manager.Manager as Manager
use Rattle.sm_core.specs.contracts.manager.Manager.TheInside as ManagerInside
use Rattle.sm_core.proofs.Crossing.{client_send, global_send, labelled_send, u32_send, u64_send}

by_send : IsSend By.the_field.row
by_send = search sendable depth 20

bool_send : IsSend Field.bool-field.row
bool_send = search sendable depth 20

usize_send : IsSend Field.usize-field.row
usize_send = search sendable depth 20

event_send : IsSend Event.the_field.row
event_send =
    let name = Name.the_send in
    let who = Identity.the_field_send in
    enum_send (enum.shape Event.the_type) (
      (who, (prepared_send, tt)),
      (
        (who, tt),
        (
          (name, (ObjRef.the_field_send, (bool_send, (u32_send, tt)))),
          (
            (name, tt),
            (
              (name, (u32_send, tt)),
              (
                (name, (u32_send, tt)),
                (
                  (name, (ObjRef.the_field_send, tt)),
                  (
                    (u32_send, (Payload.the_send, (Refs.the_send, tt))),
                    ((u32_send, tt), (tt, (tt, ((u64_send, (prepared_send, tt)), tt)))),
                  ),
                ),
              ),
            ),
          ),
        ),
      ),
    )

entry_send : IsSend Entry.the_row
entry_send =
    recorded_send _ _ _ Entry.the_type.to_one
    (struct_send (struct.shape Entry.the_type) (by_send, (u64_send, (event_send, (Outcome.the_field_send, tt)))))

chunk_send : IsSend (Sequence.the_row Entry.the_row)
chunk_send = SequenceCrosses.the_send Entry.the_row entry_send

rowed_send : IsSend Rowed.the_row
rowed_send = recorded_send _ _ _ Rowed.the_type.to_one RowedCrosses.the_field_send

named_send : IsSend Named.the_row
named_send = recorded_send _ _ _ Named.the_type.to_one NamedCrosses.the_field_send

watch_send : IsSend Watch.the_row
watch_send = recorded_send _ _ _ Watch.the_type.to_one WatchCrosses.the_field_send

turn_send : IsSend Turn.the_row
turn_send = recorded_send _ _ _ Turn.the_type.to_one TurnCrosses.the_field_send

who_send : IsSend Who.the_row
who_send = recorded_send _ _ _ Who.the_type.to_one Identity.the_field_send

maybe_manager_send : IsSend (Option.the_field Who.the_row).row
maybe_manager_send = search (sendable, crosses, who_send) depth 20

maybe_policy_send : IsSend (Option.the_field Prepared.the_row).row
maybe_policy_send = search (sendable, crosses, prepared_send) depth 20

tables_send : IsSend Tables.the_field.row
tables_send =
    struct_send (struct.shape Tables.the_type) (
      global_send,
      (
        maybe_manager_send,
        (
          maybe_policy_send,
          (
            u64_send,
            (
              u64_send,
              (
                Vec-send Rowed.the_row rowed_send,
                (Vec-send Named.the_row named_send, (Vec-send Watch.the_row watch_send, tt)),
              ),
            ),
          ),
        ),
      ),
    )

rows_send : IsSend Rows.the_row
rows_send =
    cross.view_send RowsInside.the_row _ _ _ _
    (recorded_send _ _ _ RowsInside.the_type.to_one
    (struct_send (struct.shape RowsInside.the_type)
    (tables_send, (Vec-send Turn.the_row turn_send, (u64_send, tt)))))

journal_send : IsSend Journal.the_row
journal_send =
    cross.view_send JournalInside.the_row _ _ _ _
    (recorded_send _ _ _ JournalInside.the_type.to_one
    (struct_send (struct.shape JournalInside.the_type) (
      global_send,
      (
        u64_send,
        (rows_send, (Vec-send _ chunk_send, (Vec-send Entry.the_row entry_send, (usize_send, tt)))),
      ),
    )))

principals_send : IsSend Principals.the_field.row
principals_send =
    struct_send (struct.shape Principals.the_type)
    (Process.the_field_send, (labelled_send, (u64_send, (Vec-send LiveClient.the_row client_send, tt))))

state_send : IsSend State.the_field.row
state_send =
    struct_send (struct.shape State.the_type)
    (principals_send, (u64_send, (NameTable.the_field_send, (Grants.the_field_send, (Inboxes.the_field_send, tt)))))

delivery_send : IsSend Delivery.the_row
delivery_send = recorded_send _ _ _ Delivery.the_type.to_one DeliveryCrosses.the_field_send

delivery_sync : IsSync Delivery.the_row
delivery_sync = recorded_sync _ _ _ Delivery.the_type.to_one DeliveryCrosses.the_field_sync

effect_send : IsSend Effect.the_row
effect_send =
    let name = Name.the_send in
    let who = Identity.the_field_send in
    let shared = SharedCrosses.the_send Delivery.the_row delivery_send delivery_sync in
    recorded_send _ _ _ Effect.the_type.to_one
    (enum_send (enum.shape Effect.the_type) (
      (who, tt),
      (
        (prepared_send, tt),
        (
          (u32_send, (who, tt)),
          (
            (u32_send, tt),
            (
              (name, (Service.the_field_send, tt)),
              (
                (name, tt),
                (
                  (u32_send, (Node.the_field_send, (u32_send, tt))),
                  (
                    (u32_send, (Node.the_field_send, tt)),
                    (
                      (WatchPair.the_send, tt),
                      (
                        (WatchCrosses.the_field_send, tt),
                        (
                          (u32_send, (shared, tt)),
                          (
                            (u32_send, tt),
                            ((u64_send, (u32_send, tt)), tt),
                          ),
                        ),
                      ),
                    ),
                  ),
                ),
              ),
            ),
          ),
        ),
      ),
    ))

record_send : IsSend Record.the_row
record_send = recorded_send _ _ _ Record.the_type.to_one RecordCrosses.the_field_send

draft_send : IsSend Draft.the_field.row
draft_send =
    struct_send (struct.shape Draft.the_type) (
      Vec-send Effect.the_row effect_send,
      (Vec-send Record.the_row record_send, (Vec-send Record.the_row record_send, (u32_send, tt))),
    )

ledger_send : IsSend Ledger.the_row
ledger_send =
    cross.view_send LedgerInside.the_row _ _ _ _
    (recorded_send _ _ _ LedgerInside.the_type.to_one
    (struct_send (struct.shape LedgerInside.the_type)
    (global_send, (u32_send, (journal_send, (Turns.the_field_send, (state_send, tt)))))))

pub manager_send : IsSend Manager.the_row
manager_send =
    cross.view_send ManagerInside.the_row _ _ _ _
    (recorded_send _ _ _ ManagerInside.the_type.to_one
    (struct_send (struct.shape ManagerInside.the_type)
    (global_send, (ledger_send, (draft_send, (Ring.the_send, tt))))))
