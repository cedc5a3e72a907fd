use Rattle.std.proofs.Common.{◌≡◌, Some}
use Rattle.std.specs.Prelude.{slice_get}
use Rattle.sm_rules.proofs.Permitting.{inserted}
use Rattle.sm_rules.proofs.draft.permit.Goals as goal

pub returns-in-Some-clause-named : goal.returns-in-Some-clause-named
returns-in-Some-clause-named c policy is i inside =
    let names = c.args.types.now.symbols.types in
    let found : slice_get names c.in-Some.i ≡ Some c.args.name.now = rw c.bytes.ensures at c.in-Some.ensures.named in
    inserted names c.args.name.now c.args.permissive.now c.insert.new.self c.in-Some.i i is.rows.fits.distinct found
    inside (rw c.from.ensures at (c.insert.ensures.added i))
