use Rattle.std.proofs.Common.{ℕ, List, ◌++◌, take}
use Rattle.std.specs.Prelude.{reverse}
use Rattle.sm_history.specs.declared.entry.Entry.{Entry}
use Rattle.sm_history.specs.Openings.{Opening}
use Rattle.sm_history.specs.Lawful.{IsLawful}
use Rattle.sm_replay.specs.Replaying.{HasCome}
use Rattle.sm_history.specs.Segments.{segment}
use Rattle.sm_replay.proofs.segments.enter_all.Given as goal

abbrev pub invariant-loop-entry : goal.invariant-loop-entry
invariant-loop-entry l =
    (places number : ℕ) (o : Opening) (before rest : List Entry)
    → IsLawful places (segment number o (before ++ (l.fn.entries ++ rest)))
    → HasCome places number o (reverse before) l.fn.replay
    → HasCome places number o (reverse (before ++ take l.entry-index l.fn.entries)) l.replay
