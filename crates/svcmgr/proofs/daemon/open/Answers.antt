use Rattle.std.proofs.Common.{length, ap, ◌∙◌}
use Rattle.svcmgr.proofs.AdminTokens.{has_admin, leaves_one, leaves_third}
use Rattle.svcmgr.proofs.daemon.open.Goals as goal

-- A new door has four administrators.
pub swap_remove-requires : goal.swap_remove-requires
swap_remove-requires g c = rw (c.in-Ok.parts.2.ok.0 ∙ ap length c.in-Ok.ensures.opened.2) (has_admin _)

pub swap_remove-requires-2 : goal.swap_remove-requires-2
swap_remove-requires-2 g c =
    let all = c.in-Ok.parts.2.ok.0 ∙ ap length c.in-Ok.ensures.opened.2 in
    leaves_one _ _ _ c.swap_remove.ensures.len all

pub swap_remove-requires-3 : goal.swap_remove-requires-3
swap_remove-requires-3 g c =
    let all = c.in-Ok.parts.2.ok.0 ∙ ap length c.in-Ok.ensures.opened.2 in
    leaves_third _ _ _ _ c.swap_remove.ensures.len c.swap_remove-2.ensures.len all
