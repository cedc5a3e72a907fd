use Rattle.std.proofs.Common.{◌≡◌, ◌∙◌, ◌<◌, ℕ, length, arith}
use Rattle.sm_types.specs.Denoting.{types}
use Rattle.sm_types.specs.Names.{at}
use Rattle.sm_unused.proofs.Declared.{labels_more}
use Rattle.sm_unused.proofs.used_types.add_labels.Goals as goal

pub loop-i-preserved : goal.loop-i-preserved
loop-i-preserved c =
    let policy = c.args.policy.now in
    let i : ℕ = c.loop-i.i in
    let lt : i < length policy.entries = rw (c.count-i-end.ensures, c.contexts.ensures) at c.loop-i-test.true in
    record {
      room = c.add_label.ensures.room ∙ c.loop-i.invariant.room;
      added = λ t inside. grind (
        arith,
        c.add_label.ensures.added t inside,
        c.loop-i.invariant.added t inside,
        labels_more policy.entries (at (types policy.statements) t) i lt,
      );
    }
