use Rattle.std.proofs.Common.{ℕ, List, map, ap, ◌∙◌, ◌<◌, arith}
use Rattle.std.proofs.lemmas.Bool.Decides.{nat_tests}
use Rattle.std.specs.HashMap.{spare}
use Rattle.std.specs.Map.{keys_of}
use Rattle.sm_grants.proofs.Indexed.{ok_is}
use Rattle.sm_history.specs.Segments.{admin}
use Rattle.sm_core.proofs.SealedTurns.{admins_counted}
use Rattle.sm_core.proofs.turns.Turns.count_admin.Goals as goal

pub returns-clause-admins : goal.returns-clause-admins
returns-clause-admins c =
    let room = c.requires.room in
    let some : 0 < spare c.args.self.now.admins = grind (arith, nat_tests) in
    ap (λ (es : List (ℕ × ℕ)). map admin (keys_of es))
    (ok_is c.insert.result _ (c.insert.ensures.succeeds some) c.insert.ensures.entries)
    ∙ admins_counted c.args.self.now.admins.entries c.args.admin _
