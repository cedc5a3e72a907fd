use Rattle.std.proofs.Common.{◌≤◌, arith, refl, sym, ap}
use Rattle.std.proofs.lemmas.Bool.{true≢false}
use Rattle.std.specs.Prelude.{Option}
use Rattle.sm_grants.specs.Slots.{HandleTable}
use Rattle.sm_grants.specs.Rows.{spare_in, slots_of}
use Rattle.sm_grants.specs.Highest.{highest_in, highest}
use Rattle.sm_grants.proofs.Bound.{client_bounded, set_bounded, granted_bounded}
use Rattle.sm_history.proofs.OnceRows.{once_written}
use Rattle.sm_grants.proofs.ClientRows.{tracks_gives, cannot, changed_own, changed_other}
use Rattle.sm_grants.proofs.OnceRows.{row_here, none_here}
use Rattle.sm_grants.proofs.Granting.{can_here, can_in}
use Rattle.sm_grants.proofs.grants.Grants.grant.Goals as goal

pub returns-in_default-clause-ready : goal.returns-in_default-clause-ready
returns-in_default-clause-ready c =
    let none = none_here c.args.client c.deref.ensures.value c.in_default.ensures in (
      (λ some. absurd (true≢false (sym some))),
      (λ can. absurd (cannot c.args.self.now.rows.items c.args.client c.args.node can none)),
    )

pub returns-in_default-grant-clause-ready : goal.returns-in_default-grant-clause-ready
returns-in_default-grant-clause-ready c =
    let rows = c.args.self.now.rows.items in
    let r = row_here c.deref.ensures.value c.args.self.now.once c.in-Some.ensures c.index_mut-row.ensures.value in (
      (λ some. absurd (true≢false (sym some))),
      (λ can.
          let inside = can_in rows c.args.client c.args.node c.index_mut-row.result.now.handles r.0 can in
          c.in_default-grant.ensures.all inside.0 inside.1),
    )

pub invariant_of-self-2 : goal.invariant_of-self-2
invariant_of-self-2 c =
    let rows = c.args.self.now.rows.items in
    let r = row_here c.deref.ensures.value c.args.self.now.once c.in-Some.ensures c.index_mut-row.ensures.value in
    let can = can_here rows c.args.client c.args.node c.index_mut-row.result.now.handles r.0
    (c.in-Some-grant.ensures.placed refl, c.in-Some-grant.ensures.few refl) in
    let all : highest rows ≤ c.args.self.now.bound = c.args.self.now.bounded in
    let own : highest_in (slots_of rows c.args.client) ≤ c.args.self.now.bound =
    let le = client_bounded rows c.args.client in omega (arith, le, all) in
    let small : c.args.self.now.bound ≤ 18446744073709551615 = omega arith in
    record {
      bounded = rw c.saturating_add-self.ensures (set_bounded rows c.in-Some.i _ _ (omega (arith, all, small))
          (granted_bounded (slots_of rows c.args.client) c.grant.new.self.slots c.args.node c.in-Some-grant.number
          c.args.self.now.bound 18446744073709551615
          (rw r.0 c.in-Some-grant.ensures.granted) can.few own small (omega arith)));
      once = once_written _ rows c.in-Some.i c.index_mut-row.result.now _ c.index_mut-row.ensures.value refl
          c.args.self.now.once;
    }

pub returns-clause-ready : goal.returns-clause-ready
returns-clause-ready c =
    let rows = c.args.self.now.rows.items in
    let r = row_here c.deref.ensures.value c.args.self.now.once c.in-Some.ensures c.index_mut-row.ensures.value in (
      (λ some. can_here rows c.args.client c.args.node c.index_mut-row.result.now.handles r.0
          (c.in-Some-grant.ensures.placed refl, c.in-Some-grant.ensures.few refl)),
      (λ can. refl),
    )

pub returns-clause-tracks : goal.returns-clause-tracks
returns-clause-tracks c d tr live =
    let rows = c.args.self.now.rows.items in
    let r = row_here c.deref.ensures.value c.args.self.now.once c.in-Some.ensures c.index_mut-row.ensures.value in
    tracks_gives d rows _ c.args.client c.grant.new.self c.args.node c.in-Some-grant.number (r.2 c.grant.new.self)
    (rw r.0 c.in-Some-grant.ensures.granted) tr live

pub returns-clause-spare : goal.returns-clause-spare
returns-clause-spare c =
    let rows = c.args.self.now.rows.items in
    let r = row_here c.deref.ensures.value c.args.self.now.once c.in-Some.ensures c.index_mut-row.ensures.value in
    let own = changed_own rows _ c.args.client c.grant.new.self (r.2 c.grant.new.self) in
    rw (r.0, own) c.in-Some-grant.ensures.spare

pub returns-clause-others : goal.returns-clause-others
returns-clause-others c k e =
    let rows = c.args.self.now.rows.items in
    let r = row_here c.deref.ensures.value c.args.self.now.once c.in-Some.ensures c.index_mut-row.ensures.value in
    ap (λ (o : Option HandleTable). spare_in o) (changed_other rows _ c.args.client k c.grant.new.self
    (r.2 c.grant.new.self) e)
