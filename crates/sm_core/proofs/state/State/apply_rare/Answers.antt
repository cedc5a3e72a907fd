use Rattle.std.proofs.Common.{length, ◌+◌, ap, sym, ◌∙◌, refl, arith}
use Rattle.sm_history.specs.declared.effect.Effect.TheVariants.{Opens, Sets, Connects, Dies, Adds, Removes}
use Rattle.sm_history.specs.declared.effect.Effect.TheVariants.{Watches, Unwatches}
use Rattle.sm_history.proofs.Followed.{sound_follows}
use Rattle.sm_history.proofs.Sound.{is_new, held_connects, held_dies}
use Rattle.sm_names.proofs.Others.{tracks_other as names_other, tracks_connects as names_connects}
use Rattle.sm_grants.proofs.OtherEffects.{tracks_other as grants_other, tracks_connects as grants_connects}
use Rattle.sm_inbox.specs.Tracking.{is_open}
use Rattle.sm_inbox.proofs.Others.{tracks_other as inboxes_other, tracks_connects as inboxes_connects}
use Rattle.sm_core.proofs.Opened.{open_connects, open_dies, connect_open}
use Rattle.sm_core.proofs.Opened.{fewer_names, room_left}
use Rattle.sm_core.proofs.Viewing.{same_but_room, same_principals}
use Rattle.sm_core.proofs.state.State.apply_rare.Goals as goal

pub returns-in-Opens-clause-stands : goal.returns-in-Opens-clause-stands
returns-in-Opens-clause-stands c = rw c.in-Opens.is (λ d s m. record {
  sound = sound_follows d (Opens c.in-Opens.who) s.sound m;
  principals = c.open.ensures.stand d s.principals;
  next = s.next;
  names = names_other (Opens c.in-Opens.who) d c.args.self.now.names refl s.names;
  grants = grants_other (Opens c.in-Opens.who) d c.args.self.now.grants.rows.items refl s.grants;
  inboxes = inboxes_other (Opens c.in-Opens.who) d c.args.self.now.inboxes refl s.inboxes;
  open_ = s.open_;
  foreign = s.foreign;
})

pub returns-in-Sets-clause-stands : goal.returns-in-Sets-clause-stands
returns-in-Sets-clause-stands c = rw c.in-Sets.is (λ d s m. record {
  sound = sound_follows d (Sets c.in-Sets.policy) s.sound m;
  principals = c.set_policy.ensures.stand d s.principals;
  next = s.next;
  names = names_other (Sets c.in-Sets.policy) d c.args.self.now.names refl s.names;
  grants = grants_other (Sets c.in-Sets.policy) d c.args.self.now.grants.rows.items refl s.grants;
  inboxes = inboxes_other (Sets c.in-Sets.policy) d c.args.self.now.inboxes refl s.inboxes;
  open_ = s.open_;
  foreign = s.foreign;
})

pub returns-in-Connects-clause-stands : goal.returns-in-Connects-clause-stands
returns-in-Connects-clause-stands c = rw c.in-Connects.is (λ d s m. record {
  sound = sound_follows d (Connects c.in-Connects.client c.in-Connects.who) s.sound m;
  principals = c.connect.ensures.stand d s.sound m s.principals;
  next = ap (λ n. n + 1) s.next;
  names = names_connects d c.in-Connects.client c.in-Connects.who c.args.self.now.names m s.sound.fresh s.sound.owned
      s.names;
  grants = grants_connects d c.in-Connects.client c.in-Connects.who _ (is_new d c.in-Connects.client m s.sound.fresh)
      s.grants;
  inboxes = inboxes_connects d c.in-Connects.client c.in-Connects.who c.args.self.now.inboxes
      (is_new d c.in-Connects.client m s.sound.fresh) s.inboxes;
  open_ = open_connects d c.in-Connects.client c.in-Connects.who (is_open c.args.self.now.inboxes)
      (is_new d c.in-Connects.client m s.sound.fresh) s.open_
      (connect_open c.in-Connects.client c.in-Connects.who _
      ((rw c.in-Connects.is at c.requires.room).inboxes c.in-Connects.client));
  foreign = λ k n h. s.foreign k n
      (sym (held_connects d c.in-Connects.client c.in-Connects.who k n
      (is_new d c.in-Connects.client m s.sound.fresh)) ∙ h);
})

pub returns-in-Adds-clause-stands : goal.returns-in-Adds-clause-stands
returns-in-Adds-clause-stands c = rw c.in-Adds.is (λ d s m. record {
  sound = sound_follows d (Adds c.in-Adds.name c.in-Adds.service) s.sound m;
  principals = same_principals (Adds c.in-Adds.name c.in-Adds.service) d _ refl
      (same_but_room d c.args.self.now.principals _ refl c.note.ensures refl refl s.principals);
  next = s.next;
  names = c.put_by.ensures.tracks d s.names m;
  grants = grants_other (Adds c.in-Adds.name c.in-Adds.service) d c.args.self.now.grants.rows.items refl s.grants;
  inboxes = inboxes_other (Adds c.in-Adds.name c.in-Adds.service) d c.args.self.now.inboxes refl s.inboxes;
  open_ = s.open_;
  foreign = s.foreign;
})

pub returns-in-Removes-clause-stands : goal.returns-in-Removes-clause-stands
returns-in-Removes-clause-stands c = rw c.in-Removes.is (λ d s m. record {
  sound = sound_follows d (Removes c.in-Removes.name) s.sound m;
  principals = same_principals (Removes c.in-Removes.name) d _ refl s.principals;
  next = s.next;
  names = rw (← c.bytes.ensures) (c.remove.ensures.tracks d s.names);
  grants = grants_other (Removes c.in-Removes.name) d c.args.self.now.grants.rows.items refl s.grants;
  inboxes = inboxes_other (Removes c.in-Removes.name) d c.args.self.now.inboxes refl s.inboxes;
  open_ = s.open_;
  foreign = s.foreign;
})

pub returns-in-Watches-clause-stands : goal.returns-in-Watches-clause-stands
returns-in-Watches-clause-stands c = rw c.in-Watches.is (λ d s m. record {
  sound = sound_follows d (Watches c.in-Watches.made) s.sound m;
  principals = same_principals (Watches c.in-Watches.made) d _ refl s.principals;
  next = s.next;
  names = c.watch.ensures.tracks d s.names m.0 m.1;
  grants = grants_other (Watches c.in-Watches.made) d c.args.self.now.grants.rows.items refl s.grants;
  inboxes = inboxes_other (Watches c.in-Watches.made) d c.args.self.now.inboxes refl s.inboxes;
  open_ = s.open_;
  foreign = s.foreign;
})

pub returns-in-Unwatches-clause-stands : goal.returns-in-Unwatches-clause-stands
returns-in-Unwatches-clause-stands c = rw c.in-Unwatches.is (λ d s m. record {
  sound = sound_follows d (Unwatches c.in-Unwatches.ended) s.sound m;
  principals = same_principals (Unwatches c.in-Unwatches.ended) d _ refl s.principals;
  next = s.next;
  names = rw (← c.bytes-in-Unwatches.ensures) (c.unwatch.ensures.tracks d s.names);
  grants = grants_other (Unwatches c.in-Unwatches.ended) d c.args.self.now.grants.rows.items refl s.grants;
  inboxes = inboxes_other (Unwatches c.in-Unwatches.ended) d c.args.self.now.inboxes refl s.inboxes;
  open_ = s.open_;
  foreign = s.foreign;
})

pub returns-in-Dies-clause-stands : goal.returns-in-Dies-clause-stands
returns-in-Dies-clause-stands c = rw c.in-Dies.is (λ d s m. record {
  sound = sound_follows d (Dies c.in-Dies.client) s.sound m;
  principals = c.remove_client.ensures.stand d s.principals;
  next = s.next;
  names = c.remove_client-in-Dies.ensures.tracks d s.names;
  grants = c.remove_client-in-Dies-2.ensures.tracks d s.grants;
  inboxes = c.remove_client-in-Dies-3.ensures.tracks d s.inboxes;
  open_ = open_dies d c.in-Dies.client (is_open c.args.self.now.inboxes) (is_open c.remove_client-in-Dies-3.new.self)
      s.open_ c.remove_client-in-Dies-3.ensures.still;
  foreign = λ k n h. s.foreign k n (held_dies d c.in-Dies.client k n h);
})

pub returns-in-Adds-clause-left : goal.returns-in-Adds-clause-left
returns-in-Adds-clause-left c =
    rw c.in-Adds.is (λ rest last room.
    let r = room_left (Adds c.in-Adds.name c.in-Adds.service) rest c.args.self.now _
    (c.put_by.ensures.left (length rest)) room in record {
      clients = r.clients;
      names = r.names;
      version = r.version;
      next = r.next;
      handles = r.handles;
      inboxes = r.inboxes;
    })

pub returns-in-Watches-clause-left : goal.returns-in-Watches-clause-left
returns-in-Watches-clause-left c = rw c.in-Watches.is
    (λ rest last room. room_left (Watches c.in-Watches.made) rest c.args.self.now _
    (c.watch.ensures.left (length rest)) room)

pub returns-in-Removes-clause-left : goal.returns-in-Removes-clause-left
returns-in-Removes-clause-left c = rw c.in-Removes.is
    (λ rest last room. room_left (Removes c.in-Removes.name) rest c.args.self.now _
    (λ r. c.remove.ensures.left (length rest) (fewer_names (length rest + 1) (length rest) _ (omega arith) r)) room)

pub returns-in-Unwatches-clause-left : goal.returns-in-Unwatches-clause-left
returns-in-Unwatches-clause-left c = rw c.in-Unwatches.is
    (λ rest last room. room_left (Unwatches c.in-Unwatches.ended) rest c.args.self.now _
    (λ r. c.unwatch.ensures.left (length rest) (fewer_names (length rest + 1) (length rest) _ (omega arith) r)) room)
