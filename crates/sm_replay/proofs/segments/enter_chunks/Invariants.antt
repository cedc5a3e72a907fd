use Rattle.std.proofs.Common.{ℕ, List, [], ◌++◌, take}
use Rattle.std.specs.Prelude.{reverse}
use Rattle.sm_history.specs.declared.entry.Entry.{Entry}
use Rattle.sm_history.specs.Openings.{Opening}
use Rattle.sm_history.specs.Lawful.{IsLawful}
use Rattle.sm_replay.specs.Replaying.{HasCome}
use Rattle.sm_history.specs.Segments.{joined, segment}
use Rattle.sm_replay.proofs.segments.enter_chunks.Given as goal

abbrev pub invariant-loop-chunk : goal.invariant-loop-chunk
invariant-loop-chunk l =
    (places number : ℕ) (o : Opening) (rest : List Entry)
    → IsLawful places (segment number o (joined l.fn.chunks ++ rest)) → HasCome places number o [] l.fn.replay
    → HasCome places number o (reverse (joined (take l.chunk-index l.fn.chunks))) l.replay
