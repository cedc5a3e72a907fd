use Rattle.sm_wire.proofs.FramingLemmas.{takes_never}
use Rattle.sm_wire.proofs.lines.LineReader.die.Goals as goal

pub returns-clause-ok : goal.returns-clause-ok
returns-clause-ok c = rw (← c.self.view_is)
    (takes_never c.self.inside.kind c.self.inside.mode c.self.inside.held.items c.args.piece.now _ _ _
    (rw (← c.self.view_is) at c.requires.some) (rw (← c.self.view_is) at c.requires.never)
    c.in_ok-end_stream.ensures.item c.clear.ensures.items)
