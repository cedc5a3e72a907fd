use Rattle.std.proofs.Common.{ap, sym, ◌∙◌, length, ℕ}
use Rattle.sm_history.specs.Histories.{effects_of}
use Rattle.sm_core.proofs.CallEffects.{numbers_many}
use Rattle.sm_core.proofs.ledger.Ledger.send.Goals as goal

pub give-requires : goal.give-requires
give-requires c =
    sym (ap (length {A = ℕ}) c.requires.numbers
    ∙ numbers_many (effects_of c.args.self.now.book.history) c.args.target.owner.0 c.args.nodes.now)
