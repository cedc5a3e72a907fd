use Rattle.std.proofs.Common.{◌≡◌, ◌∙◌, ◌<◌, ◌++◌, ℕ, length, ap}
use Rattle.std.specs.Prelude.{slice_get}
use Rattle.sm_unused.specs.Rows.{entry_line}
use Rattle.sm_unused.proofs.Declared.{keys_more}
use Rattle.sm_unused.proofs.declarations.push_keys.Goals as goal

pub loop-i-preserved : goal.loop-i-preserved
loop-i-preserved c =
    let policy = c.args.policy.now in
    let path = c.args.path.now in
    let i : ℕ = c.loop-i.i in
    let lt : i < length policy.entries = rw (c.count-i-end.ensures, c.contexts.ensures) at c.loop-i-test.true in
    c.in_ok-push_key.ensures
    ∙ ap (λ lines. lines ++ entry_line path policy (slice_get policy.entries i)) c.loop-i.invariant
    ∙ keys_more path policy c.args.lines.now.items i lt
