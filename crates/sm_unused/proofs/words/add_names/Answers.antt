use Rattle.std.proofs.Common.{◌≡◌, ◌<◌, ◌||◌, ℕ, List, length, get_or, take, arith}
use Rattle.std.specs.Str.{bytes_eq}
use Rattle.std.proofs.lemmas.List.Folds.{list_any_more}
use Rattle.sm_unused.proofs.Declared.{turned}
use Rattle.sm_unused.proofs.words.add_names.Goals as goal

pub loop-name-preserved : goal.loop-name-preserved
loop-name-preserved c word =
    let names = c.args.names.now in
    let i : ℕ = c.loop-name.name-index in
    let name = c.name-item.result in
    let lt : i < length names = rw c.list-name-items.ensures at c.loop-name-test.true in
    let is : name ≡ get_or names i name = rw c.list-name-items.ensures at c.name-item.is in
    let more = list_any_more (λ n. bytes_eq n word) names i name lt in
    grind (arith, c.loop-name.invariant word, c.in_ok-add_name.ensures word, more, turned word name, is, c.bytes.ensures)
