use Rattle.std.proofs.Common.{refl}
use Rattle.sm_core.specs.Ways.{way_under}
use Rattle.sm_core.proofs.way.Way.new.Goals as goal

pub returns : goal.returns
unfolding way_under
returns c s t es et = rw (c.is_quiet.ensures s t es et, c.is_quiet-2.ensures s t es et) refl
