use Rattle.std.proofs.Common.{◌∙◌, ◌++◌, ◌∷◌, [], ap}
use Rattle.sm_rules.specs.Memoed.{Denotes, Memoed}
use Rattle.sm_rules.specs.declared.memo.Expanded.{Expanded}
use Rattle.sm_rules.proofs.Memoed.{expanded_more}
use Rattle.sm_rules.proofs.memo.Memo.keep_row.Goals as goal

pub returns-in-Ok-push : goal.returns-in-Ok-push
returns-in-Ok-push c = λ table right d.
    let e = c.self-2.view_is ∙ (c.make_places.ensures) in
    let kept : Expanded = record { set = c.in-Ok.set; row = c.in-Ok-clone.row } in
    let denotes : Denotes table c.in-Ok.set c.in-Ok-clone.row =
    rw (c.in-Ok.ensures.cases, c.in-Ok-clone.ensures.cases) d in
    expanded_more table c.args.self.now _ kept right denotes
    (c.in-Ok-push.ensures.items ∙ ap (λ (m : Memoed). m.sets ++ kept ∷ []) e) (ap (λ (m : Memoed). m.grants) e)
