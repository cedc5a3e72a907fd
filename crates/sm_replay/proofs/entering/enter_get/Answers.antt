use Rattle.std.proofs.Common.{◌≡◌, false, ◌==◌, List, ℕ, ap, sym, ◌∙◌, arith}
use Rattle.std.proofs.lemmas.Bool.Decides.{nat_tests}
use Rattle.sm_history.specs.Services.{service_at}
use Rattle.sm_replay.proofs.EnteringEvents.{get_step}
use Rattle.sm_replay.proofs.entering.enter_get.Goals as goal

pub returns : goal.returns
returns c d s tr done =
    let other : (c.in-Some.service.node.owner.0 == c.args.client) ≡ false = grind (arith, nat_tests) in
    let found = sym (c.service.ensures d tr ∙ ap (λ (n : List ℕ). service_at d n) c.bytes.ensures) ∙ c.in-Some.is in
    get_step d c.args.client c.args.name.now c.in-Some.service c.in-Granted.number c.args.outcome.now
    c.give.new.tables s done
    c.in-Granted.is found other (λ may. c.in_ok-give.ensures d s tr may)
