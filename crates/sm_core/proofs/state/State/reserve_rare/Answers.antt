use Rattle.std.proofs.Common.{◌≡◌, ◌∙◌, ℕ, true}
use Rattle.sm_history.specs.Effects.{Effects}
use Rattle.sm_grants.specs.declared.grants.Grants.{Grants}
use Rattle.sm_grants.specs.Rows.{Tracks}
use Rattle.sm_inbox.specs.declared.inboxes.Inboxes.{Inboxes}
use Rattle.sm_inbox.specs.Tracking.{TracksInboxes, is_open}
use Rattle.sm_names.specs.declared.names.NameTable.{NameTable}
use Rattle.sm_names.specs.Tracking.{TracksNames}
use Rattle.sm_core.specs.declared.principals.Principals.{Principals}
use Rattle.sm_core.specs.declared.state.State.{State}
use Rattle.sm_core.specs.Stands.{Stands, StandPrincipals}
use Rattle.sm_core.proofs.state.State.reserve_rare.Goals as goal

-- Tables with other room stand as before.
roomier : (d : Effects) (s : State) (p : Principals) (t : NameTable) (g : Grants) (i : Inboxes)
    → (StandPrincipals d s.principals → StandPrincipals d p) → (TracksNames d s.names → TracksNames d t)
    → (Tracks d s.grants → Tracks d g) → (TracksInboxes d s.inboxes → TracksInboxes d i)
    → ((c : ℕ) → is_open s.inboxes c ≡ true → is_open i c ≡ true) → Stands d s
    → Stands d (record s { principals = p; names = t; grants = g; inboxes = i })
roomier d s p t g i principals names grants inboxes still st = record {
  sound = st.sound;
  principals = principals st.principals;
  next = st.next;
  names = names st.names;
  grants = grants st.grants;
  inboxes = inboxes st.inboxes;
  open_ = λ c l. still c (st.open_ c l);
  foreign = st.foreign;
}

pub returns-in_ok-reserve-in-Connects-clause-stands : goal.returns-in_ok-reserve-in-Connects-clause-stands
returns-in_ok-reserve-in-Connects-clause-stands c = λ d st.
    let s = c.args.self.now in
    let p : Principals = record s.principals { clients = c.reserve.new.self } in
    let inboxes = c.reserve-in-Connects.ensures in
    roomier d s p s.names s.grants c.reserve-in-Connects.new.self
    (λ q. record {
      manager = q.manager;
      policy = q.policy;
      version = q.version;
      clients = c.reserve.ensures.items ∙ q.clients;
    })
    (λ names. names) (λ grants. grants) (inboxes.tracks d) inboxes.still st

pub returns-in-Adds-clause-stands : goal.returns-in-Adds-clause-stands
returns-in-Adds-clause-stands c = λ d st.
    let s = c.args.self.now in
    let p : Principals = record s.principals { policy = c.reserve-in-Adds.new.self } in
    roomier d s p c.reserve-in-Adds-2.new.self s.grants s.inboxes
    (λ q. record {
      manager = q.manager;
      policy = c.reserve-in-Adds.ensures ∙ q.policy;
      version = q.version;
      clients = q.clients;
    })
    (c.reserve-in-Adds-2.ensures.tracks d) (λ grants. grants) (λ inboxes. inboxes) (λ k is. is) st
