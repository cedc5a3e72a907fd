use Rattle.std.proofs.Common.{refl, arith}
use Rattle.sm_values.specs.declared.name.TheConstants.{NAME_MAP}
use Rattle.sm_values.specs.Names.{is_name_byte}
use Rattle.sm_values.proofs.ByteTables.{agree_below, from_table}
use Rattle.sm_values.proofs.name.is_name_byte.Goals as goal

pub returns : goal.returns
unfolding agree_below
returns c = from_table NAME_MAP is_name_byte c.args.b (omega arith) refl
