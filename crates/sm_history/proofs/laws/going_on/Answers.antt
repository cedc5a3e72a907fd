use Rattle.sm_history.proofs.Fits.{fits_any}
use Rattle.sm_history.proofs.Induction.{sound_lawful}
use Rattle.sm_history.proofs.laws.going_on.Goals as goal

pub returns-clause-fits : goal.returns-clause-fits
returns-clause-fits c = λ places h e l fits done.
    fits_any places h e.by e.turn e.event e.outcome (sound_lawful places h l) fits done
