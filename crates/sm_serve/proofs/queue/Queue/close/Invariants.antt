use Rattle.sm_serve.proofs.queue.Queue.close.Given as goal

abbrev pub decreases-loop-arrived : goal.decreases-loop-arrived
decreases-loop-arrived l = goal.left-loop-arrived l
