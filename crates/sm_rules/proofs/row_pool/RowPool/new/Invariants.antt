use Rattle.sm_rules.specs.Pooling.{HasMembersBefore}
use Rattle.sm_rules.proofs.row_pool.RowPool.new.Given as goal

abbrev pub invariant-loop-attribute : goal.invariant-loop-attribute
invariant-loop-attribute l = HasMembersBefore l.attribute l.types l.pool
