use Rattle.std.proofs.Common.{◌≡◌, [], arith, refl}
use Rattle.std.proofs.lemmas.Grind.{common_steps}
use Rattle.sm_wire.proofs.FramingLemmas.{takes_end}
use Rattle.sm_wire.proofs.lines.LineReader.take_one.Goals as goal

pub returns-in_ok-whole_item-in-At-clause-ok : goal.returns-in_ok-whole_item-in-At-clause-ok
returns-in_ok-whole_item-in-At-clause-ok c =
    let none : c.self.inside.held.items ≡ [] = grind (arith, common_steps) in
    rw (← c.self.view_is, none)
    (takes_end c.self.inside.kind c.self.inside.mode _ [] c.args.piece.now [] c.in-At.n _ _ c.in-At.ensures
    c.in_ok-whole_item-in-At.ensures.item refl)
