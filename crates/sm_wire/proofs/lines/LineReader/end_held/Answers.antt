use Rattle.std.proofs.Common.{◌∙◌}
use Rattle.sm_wire.proofs.FramingLemmas.{takes_end}
use Rattle.sm_wire.proofs.lines.LineReader.end_held.Goals as goal

pub returns-in-Ok-clause-ok : goal.returns-in-Ok-clause-ok
returns-in-Ok-clause-ok c = rw (← c.self.view_is)
    (takes_end c.self.inside.kind c.self.inside.mode _ c.self.inside.held.items c.args.piece.now _ c.args.n _ _
    (rw (← c.self.view_is) at c.requires)
    (rw (c.deref.ensures.value ∙ c.in_ok-extend_from_slice.ensures.items) at c.in-Ok.ensures.item)
    c.clear.ensures.items)
