use Rattle.sm_types.proofs.Accepted.{declared_type}
use Rattle.sm_rules.proofs.Permitting.{permissive_declared}
use Rattle.sm_rules.proofs.rules.Rules.build.Goals as goal

pub returns-clause-built : goal.returns-clause-built
returns-clause-built c = record {
  types = c.requires.types;
  distinct = c.requires.rows.fits.distinct;
  count = c.type_count.ensures;
  kept = c.in_ok-allows.ensures.kept;
  permissive = c.in_ok-allows.ensures.permissive;
  permissive_declared = λ s h. permissive_declared c.args.statements.now s c.in_ok-allows.ensures.accepted h;
  declared = λ i h. declared_type c.args.statements.now c.args.types.now i c.requires h;
}
