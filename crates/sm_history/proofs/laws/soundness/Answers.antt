use Rattle.sm_history.proofs.Induction.{sound_lawful}
use Rattle.sm_history.proofs.laws.soundness.Goals as goal

pub returns : goal.returns
returns c = sound_lawful
