use Rattle.sm_replay.proofs.tables.release.Goals as goal

pub returns : goal.returns
returns c d n s tr at may = let rows = c.in_ok-release_of.ensures d n s tr.live at may in assumption
