use Rattle.std.proofs.Common.{◌≡◌, ◌≤◌, refl, sym, ap, arith}
use Rattle.std.specs.Prelude.{Option}
use Rattle.sm_grants.specs.Slots.{HandleTable}
use Rattle.sm_grants.specs.Rows.{slots_in, spare_in, spare_of, slots_of}
use Rattle.sm_grants.specs.Highest.{highest_in, highest}
use Rattle.sm_history.proofs.OnceRows.{once_written}
use Rattle.sm_grants.proofs.Bound.{client_bounded, set_bounded, released_bounded}
use Rattle.sm_grants.proofs.ClientRows.{spare_kept, tracks_room}
use Rattle.sm_grants.proofs.OnceRows.{row_here, none_here}
use Rattle.sm_grants.proofs.Releasing.{absent_not, none_not, tracks_released}
use Rattle.sm_grants.proofs.grants.Grants.release_held.Goals as goal

pub returns-in_default-clause-tracks : goal.returns-in_default-clause-tracks
returns-in_default-clause-tracks c d tr =
    let rows = c.args.self.now.rows.items in
    let none = none_here c.args.client c.deref.ensures.value c.in_default.ensures in
    (none_not d rows c.args.client c.args.node none tr, tr)

pub returns-in_default-index_by-clause-tracks : goal.returns-in_default-index_by-clause-tracks
returns-in_default-index_by-clause-tracks c d tr =
    let rows = c.args.self.now.rows.items in
    let here = row_here c.deref.ensures.value c.args.self.now.once c.in-Some.ensures c.index_mut-row.ensures.value in
    let own = ap (λ (o : Option HandleTable). slots_in o) here.0 in (
      absent_not d rows c.args.client c.args.node (rw own c.in_default-index_by.ensures.found) tr,
      tracks_room d rows _ c.args.client c.index_mut-row.result.now.handles
          (here.2 c.index_mut-row.result.now.handles) (sym own) tr,
    )

pub returns-clause-tracks : goal.returns-clause-tracks
returns-clause-tracks c d tr =
    let rows = c.args.self.now.rows.items in
    let here = row_here c.deref.ensures.value c.args.self.now.once c.in-Some.ensures c.index_mut-row.ensures.value in
    tracks_released d rows _ c.args.client c.release.new.self c.args.node c.in-Some-index_by.slot
    (here.2 c.release.new.self)
    (rw here.0 c.in-Some-index_by.ensures.found) (rw here.0 c.release.ensures.put) tr

pub returns-clause-spare : goal.returns-clause-spare
returns-clause-spare c k =
    let rows = c.args.self.now.rows.items in
    let here = row_here c.deref.ensures.value c.args.self.now.once c.in-Some.ensures c.index_mut-row.ensures.value in
    let was : spare_of rows c.args.client ≡ c.index_mut-row.result.now.handles.spare =
    ap (λ (o : Option HandleTable). spare_in o) here.0 in
    spare_kept rows _ c.args.client c.release.new.self (here.2 c.release.new.self)
    (omega (arith, was, c.release.ensures.spare)) k

pub invariant_of-self-2 : goal.invariant_of-self-2
invariant_of-self-2 c =
    let rows = c.args.self.now.rows.items in
    let here = row_here c.deref.ensures.value c.args.self.now.once c.in-Some.ensures c.index_mut-row.ensures.value in
    let all : highest rows ≤ c.args.self.now.bound = c.args.self.now.bounded in
    let own : highest_in (slots_of rows c.args.client) ≤ c.args.self.now.bound =
    let le = client_bounded rows c.args.client in omega (arith, le, all) in
    record {
      bounded = set_bounded rows c.in-Some.i c.args.self.now.bound _ all
          (released_bounded (slots_of rows c.args.client) c.release.new.self.slots c.in-Some-index_by.slot
          c.args.self.now.bound (rw here.0 c.release.ensures.put) own);
      once = once_written _ rows c.in-Some.i c.index_mut-row.result.now _ c.index_mut-row.ensures.value refl
          c.args.self.now.once;
    }
