use Rattle.std.proofs.Common.{◌≡◌, ◌+◌, ◌||◌, ◌∷◌, [], ◌++◌, ◌∙◌, sym, ap, refl, true, false, if◌then◌else◌, get_or}
use Rattle.std.proofs.Common.{take, arith}
use Rattle.std.specs.List.{list_any}
use Rattle.sm_values.specs.declared.number.Node.{Node}
use Rattle.std.proofs.lemmas.Bool.{not-true, not-false}
use Rattle.std.proofs.lemmas.List.{take_more, take_all, length-take-le}
use Rattle.sm_history.specs.Effects.{same_node}
use Rattle.sm_grants.specs.Slots.{is_in}
use Rattle.sm_grants.specs.Rows.{slots_of}
use Rattle.sm_grants.specs.Several.{new_among, with_grants}
use Rattle.sm_grants.proofs.InOrder.{numbers_are, numbers_more, grants_more}
use Rattle.sm_grants.proofs.NewObjects.{new_more, room_is}
use Rattle.sm_grants.proofs.grants.Grants.numbers_if_room.Goals as goal
use Rattle.sm_grants.proofs.grants.Grants.numbers_if_room.Goals.{then-is_new, else-is_new}

pub loop-i-preserved : goal.loop-i-preserved
loop-i-preserved c =
    let s = slots_of c.args.self.now.rows.items c.args.client in
    let p = is_in s in
    let ns = take c.loop-i.i c.args.nodes.now in
    let rs = c.loop-i.numbers.items in
    let t = with_grants s ns rs in
    let none : Node = record { owner = record { 0 = 0 }; object = 0 } in
    let n = get_or c.args.nodes.now c.loop-i.i none in
    let r = c.number_behind-number.result.0 in
    let step = (rw c.as_slice.ensures.value at (c.number_behind-number.ensures.step t)) c.loop-i.invariant.along in
    let more : take (c.loop-i.i + 1) c.args.nodes.now ≡ ns ++ n ∷ [] =
    take_more c.args.nodes.now c.loop-i.i none c.loop-i-test.true in
    let are = c.loop-i.invariant.numbered in
    let items = c.push.ensures.items in
    let long = length-take-le c.loop-i.i c.args.nodes.now (omega (arith, c.loop-i-test.true)) in
    let one_more : new_among p (take (c.loop-i.i + 1) c.args.nodes.now)
    ≡ new_among p ns + (if p n || list_any (λ m. same_node m n) ns then 0 else 1) =
    ap (new_among p) more ∙ new_more p ns n in
    let before = c.loop-i.invariant.counted in
    let few = c.loop-i.invariant.few in
    elim c.if-is_new.branch [
      | then-is_new w ↦
          let b : (p n || list_any (λ m. same_node m n) ns) ≡ false =
          not-true _ (sym c.number_behind-number.ensures.fresh ∙ w.if-is_new.true) in
          let one : new_among p (take (c.loop-i.i + 1) c.args.nodes.now) ≡ new_among p ns + 1 = one_more ∙ rw b refl in
          let count = w.count-is in
          record {
            numbered = rw (more, items) (numbers_more s ns rs n r are step.0);
            along = rw (more, items, grants_more s ns rs n r are) step.1;
            many = let a = c.push.ensures.len in let b = c.loop-i.invariant.many in omega (arith, a, b);
            near = let a = c.number_behind-number.ensures.near in omega (arith, a, long);
            counted = omega (arith, before, one, count);
            few = omega (arith, few, count);
          }
      | else-is_new w ↦
          let b : (p n || list_any (λ m. same_node m n) ns) ≡ true =
          not-false _ (sym c.number_behind-number.ensures.fresh ∙ w.if-is_new.false) in
          let same : new_among p (take (c.loop-i.i + 1) c.args.nodes.now) ≡ new_among p ns + 0 =
          one_more ∙ rw b refl in
          let count = w.count-is in
          record {
            numbered = rw (more, items) (numbers_more s ns rs n r are step.0);
            along = rw (more, items, grants_more s ns rs n r are) step.1;
            many = let a = c.push.ensures.len in let b = c.loop-i.invariant.many in omega (arith, a, b);
            near = let a = c.number_behind-number.ensures.near in omega (arith, a, long);
            counted = omega (arith, before, same, count);
            few = omega (arith, few, count);
          }
    ]

pub returns-clause-numbers : goal.returns-clause-numbers
returns-clause-numbers c d tr live =
    let whole : take c.loop-i.i c.args.nodes.now ≡ c.args.nodes.now =
    take_all c.loop-i.i c.args.nodes.now c.loop-i-test.false in
    numbers_are d c.args.client (slots_of c.args.self.now.rows.items c.args.client) c.args.nodes.now
    c.loop-i.numbers.items tr.balanced live (tr.slots c.args.client)
    (rw whole at c.loop-i.invariant.numbered)

pub returns-clause-room : goal.returns-clause-room
returns-clause-room c d tr live =
    let whole : take c.loop-i.i c.args.nodes.now ≡ c.args.nodes.now =
    take_all c.loop-i.i c.args.nodes.now c.loop-i-test.false in
    room_is d c.args.self.now.rows.items c.args.client c.args.nodes.now c.len_of.result c.loop-i.count tr live
    c.len_of.ensures.is c.len_of.ensures.most (rw whole at c.loop-i.invariant.counted)
