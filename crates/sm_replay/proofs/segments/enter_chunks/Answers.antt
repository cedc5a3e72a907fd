use Rattle.std.proofs.Common.{List, subst}
use Rattle.sm_history.specs.declared.entry.Entry.{Entry}
use Rattle.sm_replay.proofs.ReplayRuns.{EntersChunk, one_chunk, all_chunks}
use Rattle.sm_replay.proofs.segments.enter_chunks.Goals as goal

pub loop-chunk-preserved : goal.loop-chunk-preserved
loop-chunk-preserved c places number o rest l come =
    one_chunk places number o c.args.chunks.now c.chunk-item.result rest c.loop-chunk.chunk-index c.loop-chunk.replay
    c.enter_all.new.replay c.loop-chunk-test.true c.chunk-item.is l
    (subst (λ (v : List Entry). EntersChunk v c.loop-chunk.replay c.enter_all.new.replay) c.list.ensures
    c.in_ok-enter_all.ensures)
    (c.loop-chunk.invariant places number o rest l come)

pub returns : goal.returns
returns c places number o rest l come =
    all_chunks places number o c.args.chunks.now c.loop-chunk.chunk-index c.loop-chunk.replay c.loop-chunk-test.false
    (c.loop-chunk.invariant places number o rest l come)
