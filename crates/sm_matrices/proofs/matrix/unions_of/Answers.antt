use Rattle.std.proofs.Common.{◌*◌}
use Rattle.sm_matrices.proofs.Doubling.{unites_none, unites_more}
use Rattle.sm_matrices.proofs.matrix.unions_of.Goals as goal

pub loop-k-init : goal.loop-k-init
loop-k-init c = record {
  wide = rw c.words.ensures.number at c.in_ok-unions.ensures.wide;
  united = unites_none c.args.rows.now (8 * c.args.group) c.in_ok-unions.unions c.in_ok-unions.ensures.number
      c.in_ok-unions.ensures.none;
}

pub loop-k-preserved : goal.loop-k-preserved
loop-k-preserved c = record {
  wide = c.in_ok-add_row.ensures.wide;
  united = unites_more c.args.rows.now (8 * c.args.group) c.loop-k.k c.loop-k.unions c.add_row.new.unions
      c.loop-k.invariant.united c.in_ok-add_row.ensures.doubled;
}
