use Rattle.sm_listings.proofs.Entries.{listed}
use Rattle.sm_listings.proofs.laws.listed_if_allowed.Goals as goal

pub returns : goal.returns
returns c = listed
