use Rattle.sm_wire.proofs.ScriptLineLemmas.{change_spells, hello_spells, reload_spells}
use Rattle.sm_wire.proofs.laws.change_lines.Goals as goal

pub returns-clause-changes : goal.returns-clause-changes
returns-clause-changes c = change_spells

pub returns-clause-hellos : goal.returns-clause-hellos
returns-clause-hellos c = hello_spells

pub returns-clause-reloads : goal.returns-clause-reloads
returns-clause-reloads c = reload_spells
