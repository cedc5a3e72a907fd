use Rattle.std.proofs.Common.{◌≤◌, ◌-◌, length, arith}
use Rattle.std.proofs.lemmas.Grind.{common_steps}
use Rattle.sm_engine.proofs.KnownLemmas.{Appends-more}
use Rattle.sm_serve.proofs.whole_lines.write_front.Goals as goal

pub loop-at-preserved : goal.loop-at-preserved
loop-at-preserved g c =
    let le : c.in-Ok.n ≤ length c.args.text.now - c.loop-at.at = grind (arith, common_steps) in
    record {
      within = omega arith;
      written = Appends-more _ _ _ c.args.text.now c.loop-at.at c.in-Ok.n le c.loop-at.invariant.written
          c.in-Ok.ensures.bytes;
    }
