use Rattle.std.specs.Io.KnownBytes.{Keeps}
use Rattle.sm_serve.proofs.uninterrupted.UninterruptedWrite.write.Given as goal

abbrev pub invariant-loop : goal.invariant-loop
invariant-loop g l = Keeps (g.W.Write.contents l.initial.self.inner) (g.W.Write.contents l.self.inner)
