use Rattle.std.proofs.Common.{refl, arith, rules}
use Rattle.sm_grants.proofs.Indexed.{kept_new, one_entry, ok_is, free_within, not_indexed}
use Rattle.sm_grants.proofs.handles.Handles.grant_new.Goals as goal

pub insert_first-requires-clause-inside : goal.insert_first-requires-clause-inside
insert_first-requires-clause-inside c =
    let few = rw (← c.self.view_is) at c.requires.fits in
    let w = free_within c.self.inside.slots.items _ _ _ c.first_free-i.result c.self.invariant few
    c.first_free-i.ensures.free c.first_free-i.ensures.least in
    let room = c.self.invariant.indexed.room in
    omega (arith, w.1, room)

pub invariant_of-self : goal.invariant_of-self
invariant_of-self c =
    let few = rw (← c.self.view_is) at c.requires.fits in
    let absent = rw (← c.self.view_is) at c.requires.absent in
    let spare = rw (← c.self.view_is) at c.requires.room in
    let w = free_within c.self.inside.slots.items _ _ _ c.first_free-i.result c.self.invariant few
    c.first_free-i.ensures.free c.first_free-i.ensures.least in
    let ok = c.insert.ensures.succeeds (grind (arith, rules, spare)) in
    let none = not_indexed c.self.inside.slots.items _ _ _ c.args.node c.self.invariant absent in
    let updates = ok_is c.insert.result _ ok c.insert.ensures.updates in
    kept_new c.self.inside.slots.items c.fill.new.slots.items _ _ _ _ _ _ c.first_free-i.result c.args.node _ refl
    c.self.invariant w.2 absent c.fill.ensures.put updates.0 c.insert_first.ensures.added c.insert_first.ensures.room
    (c.fill.ensures.long 65536 c.self.invariant.most w.1) c.fill.ensures.more
    (one_entry c.insert.result _ _ _ none ok c.insert.ensures.old c.insert.ensures.len)

pub returns-clause-small : goal.returns-clause-small
returns-clause-small c =
    let few = rw (← c.self.view_is) at c.requires.fits in
    let w = free_within c.self.inside.slots.items _ _ _ c.first_free-i.result c.self.invariant few
    c.first_free-i.ensures.free c.first_free-i.ensures.least in
    w.1
