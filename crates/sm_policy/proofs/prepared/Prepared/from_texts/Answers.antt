use Rattle.std.proofs.Common.{refl}
use Rattle.sm_policy.proofs.prepared.Prepared.from_texts.Goals as goal

pub invariant_of-result : goal.invariant_of-result
invariant_of-result c =
    let policy = c.in_ok-statements.statements.items in
    let names = c.in_ok-types.types.symbols.types in
    let typed = rw c.deref.ensures.value at c.in_ok-types.ensures.built in
    let ruled = rw c.deref-2.ensures.value at c.in_ok-rules.ensures.built in
    rw (c.in_ok-parts.ensures.ok, c.of-seen.ensures) (record {
      typed = typed;
      ruled = ruled;
      tabled = c.in_ok-vectors.ensures policy names ruled (c.in_ok-matrices.ensures.written policy names ruled);
      sizes = rw c.deref-3.ensures.value at c.counted-counts.ensures;
      labels = refl;
      numbered = c.in_ok-labels.ensures.numbers;
      consistent = record { apart = c.in_ok-refuse_violation.ensures.consistent policy typed ruled };
    })
