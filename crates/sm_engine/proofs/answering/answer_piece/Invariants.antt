use Rattle.std.proofs.Common.{◌≡◌, ◌-◌, ◌≤◌, length, List, []}
use Rattle.sm_wire.specs.declared.item.Item.{Item}
use Rattle.sm_engine.specs.Counts.{failures_of, inner_of}
use Rattle.sm_engine.specs.Running.{Going, IsSilent}
use Rattle.sm_engine.proofs.PieceLemmas.{Taken}
use Rattle.sm_engine.proofs.answering.answer_piece.Given as goal

abbrev pub invariant-loop-start : goal.invariant-loop-start
invariant-loop-start g l = (done : List Item) × (record {
  taken : Taken l.fn.lines l.lines l.piece l.start done;
  slot : l.buffers.items.items ≡ [];
  going : Going g.M.Machine.answers l.fn.machine done (g.W.Write.contents (inner_of l.fn.writer))
      (g.W.Write.contents (inner_of l.writer)) (g.A.Write.contents (inner_of l.fn.audit))
      (g.A.Write.contents (inner_of l.audit)) l.buffers.replies.items l.buffers.lines.items l.machine;
  short : length l.buffers.replies.items ≤ g.M.Machine.hold_limit - 1;
  short_lines : length l.buffers.lines.items ≤ g.M.Machine.hold_limit - 1;
  writer_count : failures_of l.writer ≡ failures_of l.fn.writer;
  audit_count : failures_of l.audit ≡ failures_of l.fn.audit;
  silent : IsSilent g.M.Machine.answers → (l.audit ≡ l.fn.audit) × (l.buffers.lines.items ≡ []);
})

abbrev pub decreases-loop-start : goal.decreases-loop-start
decreases-loop-start g l = length l.piece - l.start
