use Rattle.std.proofs.Common.{◌<◌, ℕ, length, arith}
use Rattle.sm_unused.proofs.Rows.{lack_next, source_inside}
use Rattle.sm_unused.proofs.pairs.remove_from_rows.Goals as goal

pub loop-s-preserved : goal.loop-s-preserved
loop-s-preserved c =
    let s : ℕ = c.in-Some.s in
    let rule = c.args.rule.now in
    let lt : s < c.args.count = source_inside c.args.count s rule c.requires.fits c.in-Some.ensures.some.2 in
    let inside : s < length c.loop-s.rows.items =
    omega (arith, lt, c.loop-s.invariant.square.count, c.requires.square.count) in
    lack_next c.args.rows.now.items c.loop-s.rows.items rule c.loop-s.from s c.index_mut-row.result.now
    c.remove_from_row.new.row inside c.index_mut-row.ensures.value c.in-Some.ensures.some.0 c.loop-s.invariant
    c.in-Some.ensures.first c.remove_from_row.ensures.room c.remove_from_row.ensures.removed
