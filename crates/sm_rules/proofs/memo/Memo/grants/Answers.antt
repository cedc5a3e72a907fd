use Rattle.std.proofs.Common.{rules, ◌≡◌, ◌<◌, get_or, length, subst, sym}
use Rattle.sm_ruletext.specs.Items.{SameItems}
use Rattle.sm_rules.specs.Memoed.{IsGranted}
use Rattle.sm_rules.proofs.memo.Memo.grants.Goals as goal

pub returns-then-is_same-2 : goal.returns-then-is_same-2
returns-then-is_same-2 c = λ table right.
    let all = rw (← c.self.view_is) at right.grants in
    let place = c.in_ok-place.place.now in
    let kept = c.in_ok-kept.kept.now in
    let within : place < length c.self.inside.grants.items = search rules in
    let is : kept ≡ get_or c.self.inside.grants.items place kept = search rules in
    let class : SameItems kept.class c.args.rule.now.class = search rules in
    let perm : SameItems kept.perm c.args.rule.now.perm = search rules in
    (subst IsGranted (sym is) (all place kept within)).says c.args.rule.now class perm
