use Rattle.std.proofs.Common.{sym, ◌∙◌}
use Rattle.sm_contexts.proofs.FirstLines.{first_lines}
use Rattle.sm_contexts.proofs.Places.{default_placed}
use Rattle.sm_contexts.proofs.contexts.Contexts.read.Goals as goal

pub returns-clause-first_lines : goal.returns-clause-first_lines
returns-clause-first_lines c = first_lines c.args.text.now c.in_ok-entries.entries c.in_ok-entries.ensures.read

pub unreachable-requires : goal.unreachable-requires
unreachable-requires c =
    default_placed c.in_ok-entries.entries c.in_ok-entries.ensures.whole.has_default
    (sym c.place.ensures.place ∙ c.in_default.is)
