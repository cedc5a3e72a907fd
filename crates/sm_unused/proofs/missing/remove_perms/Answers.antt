use Rattle.std.proofs.Common.{◌<◌, ℕ}
use Rattle.sm_unused.proofs.Rows.{perm_next}
use Rattle.sm_unused.proofs.missing.remove_perms.Goals as goal

pub loop-bit-preserved : goal.loop-bit-preserved
loop-bit-preserved c =
    let bit : ℕ = c.loop-bit.bit in
    let low : bit < 7 = c.loop-bit-test.true in
    perm_next c.args.all.now.items c.loop-bit.all.items c.args.count bit c.args.rule.now c.index_mut-pairs.result.now
    c.remove_perm.new.pairs low c.index_mut-pairs.ensures.value c.loop-bit.invariant c.remove_perm.ensures.square
    c.remove_perm.ensures.removed
