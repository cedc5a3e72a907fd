use Rattle.std.proofs.Common.{ap, length, arith}
use Rattle.sm_history.specs.declared.entry.Entry.{Entry}
use Rattle.sm_history.proofs.SegmentLengths.{counted_more, counted_below}
use Rattle.sm_history.proofs.segment.count_chunks.Goals as goal

pub overflow_add-n : goal.overflow_add-n
overflow_add-n c =
    let le = counted_below c.args.chunks.now c.chunk-item.result c.loop-chunk.chunk-index c.loop-chunk-test.true
    c.chunk-item.is in
    let n = c.loop-chunk.invariant in
    let same = ap (length {A = Entry}) c.list.ensures in
    let few = c.requires in
    omega (arith, le, n, same, few)

pub loop-chunk-preserved : goal.loop-chunk-preserved
loop-chunk-preserved c =
    let more = counted_more c.args.chunks.now c.chunk-item.result c.loop-chunk.chunk-index c.loop-chunk-test.true
    c.chunk-item.is in
    let n = c.loop-chunk.invariant in
    let same = ap (length {A = Entry}) c.list.ensures in
    omega (arith, more, n, same)
