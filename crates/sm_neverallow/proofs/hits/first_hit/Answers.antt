use Rattle.std.proofs.Common.{◌<◌, length, arith}
use Rattle.sm_neverallow.specs.Hitting.{Misses, Hits, Escapes}
use Rattle.sm_neverallow.proofs.Sifting.{all_before, all_through}
use Rattle.sm_neverallow.proofs.Choosing.{escapes_miss}
use Rattle.sm_neverallow.proofs.hits.first_hit.Goals as goal

pub returns-then-found-len-clause-first : goal.returns-then-found-len-clause-first
returns-then-found-len-clause-first c =
    let inside : c.in_ok-found.found < length c.in_ok-places.places.items = omega (arith, c.in_ok-places.places.ok.0) in
    all_before c.args.rules.now c.args.set.0 c.args.end c.in_ok-places.places.items c.in_ok-found.found
    c.index.result.now
    (Escapes c.in_ok-targets.targets) (Hits c.args.matrix.now c.args.count) (Misses c.args.matrix.now c.args.count)
    (λ rule. escapes_miss c.args.matrix.now c.args.count c.in_ok-targets.targets rule c.in_ok-targets.ensures.all)
    c.in_ok-places.ensures inside
    c.index.ensures
    (rw c.deref.ensures.value at c.in_ok-found.ensures)

pub returns-clause-first : goal.returns-clause-first
returns-clause-first c =
    all_through c.args.rules.now c.args.set.0 c.args.end c.in_ok-places.places.items c.in_ok-found.found
    (Escapes c.in_ok-targets.targets) (Hits c.args.matrix.now c.args.count) (Misses c.args.matrix.now c.args.count)
    (λ rule. escapes_miss c.args.matrix.now c.args.count c.in_ok-targets.targets rule c.in_ok-targets.ensures.all)
    c.in_ok-places.ensures (omega (arith, c.if-found-len.false, c.len.ensures))
    (rw c.deref.ensures.value at c.in_ok-found.ensures)
