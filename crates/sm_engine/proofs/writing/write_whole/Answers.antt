use Rattle.std.proofs.Common.{arith}
use Rattle.std.proofs.lemmas.Bool.Decides.{nat_tests}
use Rattle.std.proofs.lemmas.Grind.{common_steps}
use Rattle.sm_engine.proofs.KnownLemmas.{Appends-more}
use Rattle.sm_engine.proofs.writing.write_whole.Goals as goal

pub loop-at-preserved : goal.loop-at-preserved
loop-at-preserved g c = record {
  within = grind (arith, common_steps);
  written = Appends-more _ _ _ c.args.text.now c.loop-at.at c.in-Ok.n (grind (arith, common_steps))
      c.loop-at.invariant.written c.in-Ok.ensures.bytes;
  count = grind (arith, nat_tests, c.in-Ok.ensures.count);
}
