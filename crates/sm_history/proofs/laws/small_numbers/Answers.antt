use Rattle.sm_history.proofs.HistoryLaws.{next_small, turns_small}
use Rattle.sm_history.proofs.Versions.{version_small}
use Rattle.sm_history.proofs.laws.small_numbers.Goals as goal

pub returns : goal.returns
returns c = λ places h l. (next_small places h l, version_small places h l, turns_small places h l)
