use Rattle.std.proofs.Common.{◌≡◌, ◌≤◌, ◌<◌, ℕ, Bool, true, false, if◌then◌else◌, List, None, refl, sym, ap, subst}
use Rattle.std.proofs.Common.{◌∙◌, arith}
use Rattle.std.specs.Prelude.{Option, is_ok}
use Rattle.std.specs.List.{insert}
use Rattle.sm_grants.specs.declared.rows.ClientHandles.{ClientHandles}
use Rattle.sm_grants.specs.Slots.{HandleTable}
use Rattle.sm_grants.specs.Rows.{table_of, slots_in, spare_in, spare_of, slots_of}
use Rattle.sm_history.proofs.OnceRows.{once_written}
use Rattle.sm_grants.proofs.OnceRows.{once_inserted, row_here, none_here}
use Rattle.sm_grants.proofs.ClientRows.{tracks_room, tracks_pushed, changed_own, spare_pushed}
use Rattle.sm_grants.proofs.ClientRows.{spare_kept, spare_more}
use Rattle.sm_history.specs.Tables.{Slots}
use Rattle.sm_grants.specs.Once.{AreOnce}
use Rattle.sm_grants.specs.Highest.{highest_in, highest}
use Rattle.sm_grants.proofs.Bound.{client_bounded, set_bounded, inserted_bounded}
use Rattle.sm_grants.proofs.grants.Grants.reserve.Goals as goal

pub returns-in-Some-clause-same : goal.returns-in-Some-clause-same
returns-in-Some-clause-same c d tr =
    let rows = c.args.self.now.rows.items in
    let here = row_here c.deref.ensures.value c.args.self.now.once c.in-Some.ensures c.index_mut-row.ensures.value in
    tracks_room d rows _ c.args.client c.reserve.new.self (here.2 c.reserve.new.self)
    (c.reserve.ensures.slots ∙ sym (ap (λ (o : Option HandleTable). slots_in o) here.0)) tr

pub returns-in-Some-clause-room : goal.returns-in-Some-clause-room
returns-in-Some-clause-room c =
    let rows = c.args.self.now.rows.items in
    let here = row_here c.deref.ensures.value c.args.self.now.once c.in-Some.ensures c.index_mut-row.ensures.value in
    let own = changed_own rows _ c.args.client c.reserve.new.self (here.2 c.reserve.new.self) in
    rw own c.reserve.ensures.room

pub returns-in-Some-clause-spare : goal.returns-in-Some-clause-spare
returns-in-Some-clause-spare c k =
    let rows = c.args.self.now.rows.items in
    let here = row_here c.deref.ensures.value c.args.self.now.once c.in-Some.ensures c.index_mut-row.ensures.value in
    let was : spare_of rows c.args.client ≡ c.index_mut-row.result.now.handles.spare =
    ap (λ (o : Option HandleTable). spare_in o) here.0 in
    spare_kept rows _ c.args.client c.reserve.new.self (here.2 c.reserve.new.self)
    (omega (arith, was, c.reserve.ensures.spare)) k

pub returns-in-Some-clause-succeeds : goal.returns-in-Some-clause-succeeds
returns-in-Some-clause-succeeds c le =
    let rows = c.args.self.now.rows.items in
    let here = row_here c.deref.ensures.value c.args.self.now.once c.in-Some.ensures c.index_mut-row.ensures.value in
    c.reserve.ensures.succeeds (rw here.0 at le)

no_spare : (rows : List ClientHandles) (client n : ℕ) → table_of rows client ≡ None → 0 < n
    → n ≤ spare_of rows client → ⊥
no_spare rows client n none some le =
    let zero : spare_of rows client ≡ 0 = ap (λ (o : Option HandleTable). spare_in o) none in
    omega (arith, some, le, zero)

pub invariant_of-self : goal.invariant_of-self
invariant_of-self c =
    let rows = c.args.self.now.rows.items in
    let here = row_here c.deref.ensures.value c.args.self.now.once c.in-Some.ensures c.index_mut-row.ensures.value in
    let same : slots_of rows c.args.client ≡ c.reserve.new.self.slots =
    ap (λ (o : Option HandleTable). slots_in o) here.0 ∙ sym c.reserve.ensures.slots in
    let all : highest rows ≤ c.args.self.now.bound = c.args.self.now.bounded in
    let own : highest_in (slots_of rows c.args.client) ≤ c.args.self.now.bound =
    let le = client_bounded rows c.args.client in omega (arith, le, all) in
    record {
      bounded = set_bounded rows c.in-Some.i c.args.self.now.bound _ all
          (subst (λ (s : Slots). highest_in s ≤ c.args.self.now.bound) same own);
      once = once_written _ rows c.in-Some.i c.index_mut-row.result.now _ c.index_mut-row.ensures.value refl
          c.args.self.now.once;
    }

pub add_row-requires : goal.add_row-requires
add_row-requires c = none_here c.args.client c.deref.ensures.value c.in-None.ensures

pub returns-in-None-clause-succeeds : goal.returns-in-None-clause-succeeds
returns-in-None-clause-succeeds c le =
    absurd (no_spare c.args.self.now.rows.items c.args.client c.args.n
    (none_here c.args.client c.deref.ensures.value c.in-None.ensures) (omega (arith, c.if-n-eq0.false)) le)
