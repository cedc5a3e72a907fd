use Rattle.std.proofs.Common.{◌≡◌, length, take}
use Rattle.sm_history.specs.Segments.{joined}
use Rattle.sm_history.proofs.segment.count_chunks.Given as goal

abbrev pub invariant-loop-chunk : goal.invariant-loop-chunk
invariant-loop-chunk l = l.n ≡ length (joined (take l.chunk-index l.fn.chunks))
