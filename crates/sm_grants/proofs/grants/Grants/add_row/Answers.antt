use Rattle.std.proofs.Common.{◌≡◌, ◌≤◌, ◌<◌, ℕ, Bool, true, false, if◌then◌else◌, List, None, refl, sym, ap, subst}
use Rattle.std.proofs.Common.{◌∙◌, arith}
use Rattle.std.specs.Prelude.{Option, is_ok}
use Rattle.std.specs.List.{insert}
use Rattle.sm_grants.specs.declared.rows.ClientHandles.{ClientHandles}
use Rattle.sm_grants.specs.Slots.{HandleTable}
use Rattle.sm_grants.specs.Rows.{table_of, slots_in, spare_in, spare_of, slots_of}
use Rattle.sm_grants.proofs.OnceRows.{once_inserted}
use Rattle.sm_grants.proofs.ClientRows.{tracks_room, tracks_pushed, changed_own, spare_pushed}
use Rattle.sm_grants.proofs.ClientRows.{spare_kept, spare_more}
use Rattle.sm_history.specs.Tables.{Slots}
use Rattle.sm_grants.specs.Once.{AreOnce}
use Rattle.sm_grants.specs.Highest.{highest_in, highest}
use Rattle.sm_grants.proofs.Bound.{client_bounded, set_bounded, inserted_bounded}
use Rattle.sm_grants.proofs.grants.Grants.add_row.Goals as goal

pub returns-clause-same : goal.returns-clause-same
returns-clause-same c d tr =
    let rows = c.args.self.now.rows.items in
    let none = c.requires in
    let r : ClientHandles = record { client = c.args.client; handles = c.reserve-2.new.self } in
    rw (c.insert.ensures.items, c.in-Ok.is, c.reserve.ensures.items)
    (tracks_pushed d rows c.place_for-place.result r none
    (c.reserve-2.ensures.slots ∙ c.in_ok-handles.ensures) tr)

pub returns-clause-room : goal.returns-clause-room
returns-clause-room c =
    let rows = c.args.self.now.rows.items in
    let none = c.requires in
    let r : ClientHandles = record { client = c.args.client; handles = c.reserve-2.new.self } in
    rw (
      c.insert.ensures.items,
      c.in-Ok.is,
      c.reserve.ensures.items,
      spare_pushed rows c.place_for-place.result r none,
    ) c.in_ok-reserve-2.ensures.room

pub returns-clause-spare : goal.returns-clause-spare
returns-clause-spare c k =
    let rows = c.args.self.now.rows.items in
    let none = c.requires in
    let r : ClientHandles = record { client = c.args.client; handles = c.reserve-2.new.self } in
    rw (c.insert.ensures.items, c.in-Ok.is, c.reserve.ensures.items)
    (spare_more rows c.place_for-place.result r none k)

either : (P : List ClientHandles → Type 0) (b : Bool) (xs ys zs : List ClientHandles)
    → zs ≡ (if b then xs else ys) → P xs → P ys → P zs
either P true xs ys zs e p q = subst P (sym e) p
either P false xs ys zs e p q = subst P (sym e) q

pub invariant_of-self-2 : goal.invariant_of-self-2
invariant_of-self-2 c =
    let rows = c.args.self.now.rows.items in
    let none = c.requires in
    let r : ClientHandles = record { client = c.args.client; handles = c.reserve-2.new.self } in
    let items = rw c.reserve.ensures.items at c.insert.ensures.items in
    record {
      bounded = either (λ v. highest v ≤ c.args.self.now.bound) (is_ok c.insert.result)
          (insert rows c.place_for-place.result r) rows
          c.insert.new.self.items items
          (inserted_bounded rows c.place_for-place.result c.args.self.now.bound r c.args.self.now.bounded
          (c.reserve-2.ensures.slots ∙ c.in_ok-handles.ensures)) c.args.self.now.bounded;
      once = either AreOnce (is_ok c.insert.result) (insert rows c.place_for-place.result r) rows
          c.insert.new.self.items items
          (once_inserted rows c.place_for-place.result r none c.args.self.now.once)
          c.args.self.now.once;
    }
