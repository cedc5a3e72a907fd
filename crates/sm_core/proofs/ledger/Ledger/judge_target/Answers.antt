use Rattle.std.proofs.Common.{inr, refl, sym}
use Rattle.sm_core.proofs.ledger.Ledger.judge_target.Goals as goal

pub returns-in_default-client_row : goal.returns-in_default-client_row
returns-in_default-client_row c =
    inr (rw (sym c.in-Some.ensures, c.in_default-client_row.ensures) refl)
