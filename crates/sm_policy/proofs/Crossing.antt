-- A policy crosses to another thread, and threads share one.
use denote.Param.Send.{IsSend, IsSync, sendable}
use Rattle.std.proofs.Crossing.{crosses}
use Rattle.sm_policy.proofs.labels.Labels.TheSendSync as Labels
use Rattle.sm_rules.proofs.rules.Rules.TheSendSync as Rules
use Rattle.sm_types.proofs.types.Types.TheSendSync as Types
use Rattle.sm_matrices.proofs.vectors.Vectors.TheSendSync as Vectors
use Rattle.sm_policy.specs.contracts.prepared.Prepared as Prepared

-- The fields of `Parts` may be sent, and may be shared.
ruleset sends = (Types.the_send, Rules.the_send, Vectors.the_send, Labels.the_field_send)

ruleset syncs = (Types.the_sync, Rules.the_sync, Vectors.the_sync, Labels.the_field_sync)

pub prepared_send : IsSend Prepared.the_row
prepared_send = search (sendable, crosses, sends, syncs) depth 20

pub prepared_sync : IsSync Prepared.the_row
prepared_sync = search (sendable, crosses, sends, syncs) depth 20
