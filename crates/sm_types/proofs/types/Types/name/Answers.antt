use Rattle.std.proofs.Common.{◌≡◌, sym, slice_get, Some}
use Rattle.sm_types.proofs.NameLemmas.{place_of}
use Rattle.sm_types.proofs.types.Types.name.Goals as goal

pub returns-clause-index : goal.returns-clause-index
returns-clause-index c =
    rw (← c.self.view_is) (place_of c.self.inside.table.symbols.types c.in_ok-name.name.now c.args.index
    c.self.invariant.fits.distinct
    (let e : slice_get c.self.inside.table.symbols.types c.args.index ≡ Some c.in_ok-name.name.now =
    rw c.from.ensures at (sym c.in_ok-name.ensures) in e))
