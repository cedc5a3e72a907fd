use Rattle.std.proofs.Common.{◌≡◌, ◌+◌, min}
use Rattle.sm_engine.specs.Buffers.{IsIdle}
use Rattle.sm_engine.specs.Counts.{failures_of, calls_of, inner_of, greatest_count}
use Rattle.sm_engine.specs.Running.{IsSilent, Sofar}
use Rattle.sm_engine.proofs.running.run.Given as goal

abbrev pub invariant-loop-reads : goal.invariant-loop-reads
invariant-loop-reads g l = record {
  sofar : Sofar l.fn.kind g.M.Machine.answers g.M.Machine.over l.reads l.fn.machine l.lines
      (g.R.Read.remaining (inner_of l.fn.reader))
      (g.R.Read.remaining (inner_of l.reader)) (g.W.Write.contents (inner_of l.fn.writer))
      (g.W.Write.contents (inner_of l.writer)) (g.A.Write.contents (inner_of l.fn.audit))
      (g.A.Write.contents (inner_of l.audit)) l.machine;
  idle : IsIdle l.buffers;
  reads : calls_of l.reader ≡ min (calls_of l.fn.reader + l.reads) greatest_count;
  reader_count : failures_of l.reader ≡ failures_of l.fn.reader;
  writer_count : failures_of l.writer ≡ failures_of l.fn.writer;
  audit_count : failures_of l.audit ≡ failures_of l.fn.audit;
  silent : IsSilent g.M.Machine.answers → l.audit ≡ l.fn.audit;
}
