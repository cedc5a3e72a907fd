use Rattle.std.proofs.Common.{◌∙◌, ◌++◌, ◌∷◌, [], ap}
use Rattle.sm_rules.specs.Memoed.{Memoed}
use Rattle.sm_rules.specs.declared.memo.Granted.{Granted}
use Rattle.sm_rules.proofs.Memoed.{granted_more}
use Rattle.sm_rules.proofs.memo.Memo.keep_grants.Goals as goal

pub returns-in-Ok-push : goal.returns-in-Ok-push
returns-in-Ok-push c = λ table right d.
    let e = c.self-2.view_is ∙ (c.make_slots.ensures) in
    let kept : Granted = record {
      class = c.in-Ok.class;
      perm = c.in-Ok-clone.perm;
      known = c.args.known;
      perms = c.args.perms;
    } in
    granted_more table c.args.self.now _ kept c.args.rule.now right c.in-Ok.ensures.cases
    c.in-Ok-clone.ensures.cases d (ap (λ (m : Memoed). m.sets) e)
    (c.in-Ok-push.ensures.items ∙ ap (λ (m : Memoed). m.grants ++ kept ∷ []) e)
