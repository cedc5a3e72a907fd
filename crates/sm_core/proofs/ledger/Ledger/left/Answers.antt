use Rattle.std.proofs.Common.{ℕ, ap, ◌∙◌, Option}
use Rattle.std.specs.Prelude.{unwrap_or}
use Rattle.sm_history.specs.Histories.{effects_of}
use Rattle.sm_core.specs.Notifications.{free_at}
use Rattle.sm_core.proofs.ledger.Ledger.left.Goals as goal

pub returns-in-None : goal.returns-in-None
returns-in-None c =
    let d = effects_of c.self.inside.journal.history in
    let none = c.in-None.ensures in
    rw (← c.self.view_is)
    (c.free.ensures.free d c.self.invariant.stands.inboxes
    ∙ ap (λ (o : Option ℕ). unwrap_or o (free_at d c.args.client)) none)
