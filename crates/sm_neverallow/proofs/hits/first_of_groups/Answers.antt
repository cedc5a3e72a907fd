use Rattle.sm_neverallow.proofs.Sifting.{found_in_groups}
use Rattle.sm_neverallow.proofs.hits.first_of_groups.Goals as goal

pub returns : goal.returns
returns c =
    found_in_groups c.args.matrix.now c.args.count c.args.first c.in_ok-all.all.items c.args.rules.now c.args.places.now
    c.args.end c.first_in_groups.result c.in_ok-all.ensures.number c.in_ok-all.ensures.united c.requires.fits
    (rw c.deref.ensures.value at c.first_in_groups.ensures)
