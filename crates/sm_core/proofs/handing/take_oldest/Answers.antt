use Rattle.sm_history.specs.Inboxes.{inbox_at}
use Rattle.sm_core.proofs.HandedOver.{first_taken, was_taken}
use Rattle.sm_core.proofs.handing.take_oldest.Goals as goal

pub returns-clause-taken : goal.returns-clause-taken
returns-clause-taken c = λ d t. first_taken c.take.result _ _ _ _ (c.take.ensures.taken d t)

pub returns-clause-tracks : goal.returns-clause-tracks
returns-clause-tracks c = λ d t some. was_taken c.take.result (inbox_at d c.args.client) _ _ _ some
    (c.take.ensures.taken d t)
