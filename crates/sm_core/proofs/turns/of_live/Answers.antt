use Rattle.std.proofs.Common.{◌≡◌, ℕ, ◌+◌, ◌==◌, take, subst, arith}
use Rattle.std.specs.HashMap.{get}
use Rattle.std.specs.List.{list_any}
use Rattle.std.proofs.lemmas.Bool.Decides.{nat_tests}
use Rattle.sm_history.specs.declared.by.By.TheVariants.{Client}
use Rattle.sm_core.specs.Counting.{change_count}
use Rattle.sm_core.proofs.SealedTurns.{ids, any_more, older_more}
use Rattle.sm_core.proofs.turns.of_live.Goals as goal

pub loop-row-preserved : goal.loop-row-preserved
loop-row-preserved c k =
    let rows = c.args.live.now in
    let row = c.row-item.result in
    older_more (row.id == k) (list_any (λ n. n == k) (ids (take c.loop-row.row-index rows)))
    (list_any (λ n. n == k) (ids (take (c.loop-row.row-index + 1) rows))) c.of.result
    (change_count c.args.turns.now (Client (record { 0 = k }))) (get (◌==◌) c.loop-row.older k) _
    (c.in_ok-insert.ensures.updates.0 k) (c.loop-row.invariant k)
    (any_more rows c.loop-row.row-index k row c.row-item.is c.loop-row-test.true)
    (λ e. let same : row.id ≡ k = grind (arith, nat_tests) in
    subst (λ (n : ℕ). c.of.result ≡ change_count c.args.turns.now (Client (record { 0 = n }))) same
    c.of.ensures)
