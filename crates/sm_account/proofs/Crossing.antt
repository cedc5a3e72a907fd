-- What crosses threads, of the crates below.
use denote.Param.Send.{IsSync}
use denote.Struct.Field as Field
use Rattle.sm_connection.proofs.monitor.Gauge.TheSendSync as GaugeCrosses
use Rattle.sm_connection.specs.contracts.monitor.Gauge as Gauge

pub gauge_sync : IsSync Gauge.the_field.row
gauge_sync = GaugeCrosses.the_field_sync
