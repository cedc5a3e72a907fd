use Rattle.std.proofs.Common.{◌≡◌, ◌∙◌, Bool, true, false, sym}
use Rattle.std.specs.Prelude.{not}
use Rattle.sm_history.specs.Effects.{same_node}
use Rattle.sm_grants.specs.Slots.{is_in}
use Rattle.sm_grants.specs.Rows.{slots_of}
use Rattle.sm_grants.proofs.Places.{place_among}
use Rattle.sm_grants.proofs.grants.Grants.is_new.Goals as goal

other_way : (a b c : Bool) → a ≡ not b → a ≡ c → b ≡ not c
other_way a true c e f = cc
other_way a false c e f = cc

pub returns-then-not-holds : goal.returns-then-not-holds
returns-then-not-holds c =
    let absent : is_in (slots_of c.args.self.now.rows.items c.args.client) c.args.node ≡ false = sym c.holds.ensures ∙
    c.if-not-holds.true in
    rw absent (other_way _ _ _ c.is_none.ensures
    (place_among (λ n. same_node n c.args.node) c.args.earlier.now c.node_index.result c.node_index.ensures))
