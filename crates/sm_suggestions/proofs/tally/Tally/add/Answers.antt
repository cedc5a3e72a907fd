use Rattle.std.proofs.Common.{◌≡◌, ◌∙◌, sym, ap, List, arith, map}
use Rattle.sm_suggestions.specs.Tallying.{Count, count_of, counted, times_in}
use Rattle.sm_suggestions.proofs.Tables.{inserted, times_within}
use Rattle.sm_suggestions.proofs.tally.Tally.add.Goals as goal

pub overflow_add-before : goal.overflow_add-before
overflow_add-before c =
    omega (arith, times_within c.args.line.items c.args.self.now, rw c.deref.ensures.value at c.times_of-before.ensures)

pub returns : goal.returns
returns c =
    let before : c.times_of-before.result ≡ times_in c.args.line.items (map count_of c.self.inside.times.entries) =
    rw c.deref.ensures.value at c.times_of-before.ensures
    ∙ sym (ap (times_in c.args.line.items) c.self.view_is) in
    rw c.in_ok-insert.ensures.entries (inserted c.args.line c.times_of-before.result c.self.inside.times.entries before
    ∙ ap (λ (cs : List Count). counted cs c.args.line.items) c.self.view_is)
