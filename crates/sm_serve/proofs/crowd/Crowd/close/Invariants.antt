use Rattle.std.specs.VecDeque.{deque_len}
use Rattle.sm_serve.proofs.crowd.Crowd.close.Given as goal

abbrev pub decreases-loop-arrived : goal.decreases-loop-arrived
decreases-loop-arrived g l = deque_len l.waiting
