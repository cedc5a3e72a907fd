use Rattle.sm_replay.proofs.ReplayRuns.{one_more, all_come}
use Rattle.sm_replay.proofs.segments.enter_all.Goals as goal

pub loop-entry-preserved : goal.loop-entry-preserved
loop-entry-preserved c places number o before rest l come =
    one_more places number o before c.args.entries.now rest c.loop-entry.entry-index c.entry-item.result
    c.loop-entry.replay c.enter.new.self c.loop-entry-test.true c.entry-item.is l
    c.in_ok-enter.ensures
    (c.loop-entry.invariant places number o before rest l come)

pub returns : goal.returns
returns c places number o before rest l come =
    all_come places number o before c.args.entries.now c.loop-entry.entry-index c.loop-entry.replay
    c.loop-entry-test.false (c.loop-entry.invariant places number o before rest l come)
