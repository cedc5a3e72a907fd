use Rattle.std.proofs.Common.{Option, ap}
use Rattle.sm_grants.specs.Rows.{spare_in}
use Rattle.sm_grants.specs.Slots.{HandleTable}
use Rattle.sm_grants.proofs.ClientRows.{tracks_dies, row_removed, none_removed, others_stay}
use Rattle.sm_grants.proofs.Bound.{removed_bounded}
use Rattle.sm_grants.proofs.OnceRows.{none_here, once_removed, sought}
use Rattle.sm_grants.proofs.grants.Grants.remove_client.Goals as goal

pub returns-in-Some-clause-tracks : goal.returns-in-Some-clause-tracks
returns-in-Some-clause-tracks c d tr =
    let rows = c.args.self.now.rows.items in
    let at = sought c.deref.ensures.value c.args.self.now.once c.in-Some.ensures in
    rw c.remove.ensures.items
    (tracks_dies d rows _ c.args.client (row_removed rows c.args.client c.in-Some.i at tr.once) tr)

pub returns-in_default-clause-tracks : goal.returns-in_default-clause-tracks
returns-in_default-clause-tracks c d tr =
    let rows = c.args.self.now.rows.items in
    let none = none_here c.args.client c.deref.ensures.value c.in_default.ensures in
    tracks_dies d rows rows c.args.client (none_removed rows c.args.client none tr.once) tr

pub returns-in-Some-clause-others : goal.returns-in-Some-clause-others
returns-in-Some-clause-others c k e =
    let rows = c.args.self.now.rows.items in
    let at = sought c.deref.ensures.value c.args.self.now.once c.in-Some.ensures in
    rw c.remove.ensures.items
    (ap (λ (o : Option HandleTable). spare_in o) (others_stay rows c.args.client c.in-Some.i k at e))

pub invariant_of-self : goal.invariant_of-self
invariant_of-self c = record {
  bounded = rw c.remove.ensures.items
      (removed_bounded c.args.self.now.rows.items c.in-Some.i c.args.self.now.bound c.args.self.now.bounded);
  once = rw c.remove.ensures.items (once_removed c.args.self.now.rows.items c.in-Some.i c.args.self.now.once);
}
