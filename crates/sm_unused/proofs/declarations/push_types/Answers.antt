use Rattle.std.proofs.Common.{◌≡◌, ◌<◌, ℕ, length, get_or, refl}
use Rattle.std.proofs.lemmas.Option.{slice_get_read}
use Rattle.sm_unused.proofs.Declared.{declared_at}
use Rattle.sm_unused.proofs.declarations.push_types.Goals as goal

pub push_type-requires-clause-declared : goal.push_type-requires-clause-declared
push_type-requires-clause-declared c =
    let policy = c.args.policy.now.statements in
    let i : ℕ = c.loop-statement.statement-index in
    let s = c.statement-item.result in
    let lt : i < length policy = rw c.requires.source at c.loop-statement-test.true in
    let is : s ≡ get_or policy i s = rw c.requires.source at c.statement-item.is in
    declared_at policy i s (slice_get_read policy (length policy) i s refl lt is)
