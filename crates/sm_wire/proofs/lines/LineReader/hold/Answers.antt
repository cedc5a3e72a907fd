use Rattle.sm_wire.proofs.FramingLemmas.{takes_later}
use Rattle.sm_wire.proofs.lines.LineReader.hold.Goals as goal

pub returns-clause-ok : goal.returns-clause-ok
returns-clause-ok c = λ items. rw (← c.self.view_is)
    (takes_later c.self.inside.kind c.self.inside.mode c.self.inside.held.items c.args.piece.now _ items
    (rw (← c.self.view_is) at c.requires) c.in_ok-extend_from_slice.ensures.items)
