use Rattle.std.proofs.Common.{◌<◌, length, arith}
use Rattle.std.proofs.lemmas.Option.{slice_get_within}
use Rattle.sm_violations.proofs.violations.first_from.Goals as goal

pub returns-clause-none : goal.returns-clause-none
returns-clause-none c = record {
  apart = λ i allow le found.
      let inside : i < length c.args.allows.now = slice_get_within c.args.allows.now i allow found in
      c.loop-place.invariant i allow le (omega arith) found;
}
