use Rattle.sm_history.proofs.Listing.{lists_effects}
use Rattle.sm_history.proofs.laws.outcomes.Goals as goal

pub returns : goal.returns
returns c = lists_effects
