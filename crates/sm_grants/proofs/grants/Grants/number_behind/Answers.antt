use Rattle.std.proofs.Common.{◌≡◌, ◌+◌, ◌-◌, Some, None, ◌∙◌, refl, sym, ap, get_or, arith}
use Rattle.sm_values.specs.declared.number.Node.{Node}
use Rattle.sm_history.proofs.Balanced.{node_same}
use Rattle.sm_history.specs.Tables.{slot}
use Rattle.sm_grants.specs.Slots.{node_of}
use Rattle.sm_grants.specs.Rows.{slots_of}
use Rattle.sm_history.specs.Effects.{same_node}
use Rattle.sm_grants.proofs.Places.{place_is, place_among}
use Rattle.sm_grants.proofs.Tracked.{in_slots}
use Rattle.sm_grants.proofs.InOrder.{along_held, along_new}
use Rattle.sm_grants.proofs.grants.Grants.number_behind.Goals as goal

pub returns-in-Some-clause-step : goal.returns-in-Some-clause-step
returns-in-Some-clause-step c t a =
    let s = slots_of c.args.self.now.rows.items c.args.client in
    let place : (c.in-Some.i + 1) - 1 ≡ c.in-Some.i = omega arith in
    let here : node_of (slot t ((c.in-Some.i + 1) - 1)) ≡ Some c.args.node =
    rw place (a.kept c.in-Some.i c.args.node c.in-Some.ensures.found) in
    along_held s t c.args.earlier.now c.args.numbers.now c.args.node (c.in-Some.i + 1) c.args.behind a
    c.requires.as_many (omega arith) here

pub returns-in-Some-node_index-clause-step : goal.returns-in-Some-node_index-clause-step
returns-in-Some-node_index-clause-step c t a =
    let s = slots_of c.args.self.now.rows.items c.args.client in
    let r = get_or c.args.numbers.now c.in-Some-node_index.i 0 in
    let found = place_is (λ n. same_node n c.args.node) c.args.earlier.now c.args.node (Some c.in-Some-node_index.i)
    c.in-Some-node_index.ensures in
    let w = a.given c.in-Some-node_index.i c.args.node found.0 in
    let same = node_same (get_or c.args.earlier.now c.in-Some-node_index.i c.args.node) c.args.node found.1 in
    along_held s t c.args.earlier.now c.args.numbers.now c.args.node r c.args.behind a c.requires.as_many w.0
    (w.1 ∙ ap (λ (v : Node). Some v) same)

pub returns-clause-step : goal.returns-clause-step
returns-clause-step c t a =
    along_new (slots_of c.args.self.now.rows.items c.args.client) t c.args.earlier.now c.args.numbers.now c.args.node
    c.free_from-free.result c.args.behind a c.requires.as_many
    c.in_default.ensures.found
    (place_is (λ n. same_node n c.args.node) c.args.earlier.now c.args.node None c.in_default-node_index.ensures)
    c.free_from-free.ensures.behind c.free_from-free.ensures.free c.free_from-free.ensures.least

pub returns-in-Some-clause-fresh : goal.returns-in-Some-clause-fresh
returns-in-Some-clause-fresh c =
    let s = slots_of c.args.self.now.rows.items c.args.client in
    rw (sym (in_slots s c.args.node (Some c.in-Some.i) c.in-Some.ensures.found)) refl

pub returns-in-Some-node_index-clause-fresh : goal.returns-in-Some-node_index-clause-fresh
returns-in-Some-node_index-clause-fresh c =
    let s = slots_of c.args.self.now.rows.items c.args.client in
    rw (
      sym (in_slots s c.args.node None c.in_default.ensures.found),
      sym (place_among (λ n. same_node n c.args.node) c.args.earlier.now (Some c.in-Some-node_index.i)
          c.in-Some-node_index.ensures),
    ) refl

pub returns-clause-fresh : goal.returns-clause-fresh
returns-clause-fresh c =
    let s = slots_of c.args.self.now.rows.items c.args.client in
    rw (
      sym (in_slots s c.args.node None c.in_default.ensures.found),
      sym (place_among (λ n. same_node n c.args.node) c.args.earlier.now None c.in_default-node_index.ensures),
    ) refl
