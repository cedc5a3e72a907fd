use Rattle.sm_account.proofs.Staying.{one_run}
use Rattle.sm_account.proofs.gathering.opened.Goals as goal

pub returns-clause-one_run : goal.returns-clause-one_run
returns-clause-one_run g c =
    let admin = c.into_parts-admin in
    rw c.new.ensures (one_run g.J.Naming.opening admin.result.0.seen _ c.knows_opening.ensures.lawful
    c.knows_opening.ensures.begins admin.ensures.parts)
