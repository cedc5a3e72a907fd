use Rattle.sm_core.proofs.view.View.lawful.Goals as goal

pub returns : goal.returns
returns c = rw (← c.self.view_is) c.self.invariant.lawful
