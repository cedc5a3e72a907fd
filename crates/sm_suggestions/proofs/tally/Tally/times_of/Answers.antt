use Rattle.std.proofs.Common.{◌∙◌, ap, ℕ, Option}
use Rattle.std.specs.Prelude.{unwrap_or}
use Rattle.sm_suggestions.specs.Tallying.{times_in}
use Rattle.sm_suggestions.proofs.Tables.{looked_up}
use Rattle.sm_suggestions.proofs.tally.Tally.times_of.Goals as goal

pub returns : goal.returns
returns c = c.unwrap_or.ensures ∙ (ap (λ (o : Option ℕ). unwrap_or o 0) (c.copied.ensures ∙ c.get.ensures.value)
    ∙ (looked_up c.args.line.now c.self.inside.times.entries ∙ ap (times_in c.args.line.now) c.self.view_is))
