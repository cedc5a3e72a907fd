use Rattle.sm_wire.proofs.RecordedLemmas.{line_items, reload_items, joined_items}
use Rattle.sm_wire.proofs.laws.recorded_lines.Goals as goal

pub returns-clause-lines : goal.returns-clause-lines
returns-clause-lines c = line_items

pub returns-clause-reloads : goal.returns-clause-reloads
returns-clause-reloads c = reload_items

pub returns-clause-joined : goal.returns-clause-joined
returns-clause-joined c = joined_items
