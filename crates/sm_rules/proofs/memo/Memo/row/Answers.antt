use Rattle.std.proofs.Common.{rules, ◌≡◌, ◌<◌, get_or, length, subst, sym}
use Rattle.sm_ruletext.specs.Items.{SameItems}
use Rattle.sm_rules.specs.Memoed.{IsExpanded}
use Rattle.sm_rules.proofs.memo.Memo.row.Goals as goal

pub returns : goal.returns
returns c = λ table right.
    let all = rw (← c.self.view_is) at right.sets in
    let place = c.in-Some.place.now in
    let kept = c.in-Some-get.kept.now in
    let within : place < length c.self.inside.sets.items = search rules in
    let is : kept ≡ get_or c.self.inside.sets.items place kept = search rules in
    let same : SameItems kept.set c.args.set.now = search rules in
    let d = (subst (IsExpanded table) (sym is) (all place kept within)).says c.args.set.now same in
    rw c.in_ok-row.ensures.cases d
