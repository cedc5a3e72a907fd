use Rattle.std.proofs.Common.{◌≡◌, ◌+◌, ◌||◌, ◌∙◌, sym, ap, refl, true, false, if◌then◌else◌, get_or, take, arith}
use Rattle.std.specs.List.{list_any}
use Rattle.std.proofs.lemmas.List.{take_more}
use Rattle.sm_values.specs.declared.number.Node.{Node}
use Rattle.sm_history.specs.Effects.{same_node}
use Rattle.sm_grants.specs.Slots.{is_in}
use Rattle.sm_grants.specs.Rows.{slots_of}
use Rattle.sm_grants.specs.Several.{new_among}
use Rattle.sm_grants.proofs.NewObjects.{new_more}
use Rattle.sm_grants.proofs.grants.Grants.count_new.Goals as goal
use Rattle.sm_grants.proofs.grants.Grants.count_new.Goals.{then-is_new, else-is_new}
use Rattle.std.proofs.lemmas.Bool.{not-true, not-false}

pub loop-i-preserved : goal.loop-i-preserved
loop-i-preserved c =
    let p = is_in (slots_of c.args.self.now.rows.items c.args.client) in
    let none : Node = record { owner = record { 0 = 0 }; object = 0 } in
    let n = get_or c.args.nodes.now c.loop-i.i none in
    let ns = take c.loop-i.i c.args.nodes.now in
    let more : new_among p (take (c.loop-i.i + 1) c.args.nodes.now)
    ≡ new_among p ns + (if p n || list_any (λ m. same_node m n) ns then 0 else 1) =
    ap (new_among p) (take_more c.args.nodes.now c.loop-i.i none c.loop-i-test.true) ∙ new_more p ns n in
    let before = c.loop-i.invariant.counted in
    let few = c.loop-i.invariant.few in
    elim c.if-is_new.branch [
      | then-is_new w ↦
          let b : (p n || list_any (λ m. same_node m n) ns) ≡ false =
          not-true _ (sym c.is_new.ensures ∙ w.if-is_new.true) in
          let one : new_among p (take (c.loop-i.i + 1) c.args.nodes.now) ≡ new_among p ns + 1 = more ∙ rw b refl in
          let count = w.count-is in
          record { counted = omega (arith, before, one, count); few = omega (arith, few, count) }
      | else-is_new w ↦
          let b : (p n || list_any (λ m. same_node m n) ns) ≡ true =
          not-false _ (sym c.is_new.ensures ∙ w.if-is_new.false) in
          let same : new_among p (take (c.loop-i.i + 1) c.args.nodes.now) ≡ new_among p ns + 0 = more ∙ rw b refl in
          let count = w.count-is in
          record { counted = omega (arith, before, same, count); few = omega (arith, few, count) }
    ]
