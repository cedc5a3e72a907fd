use Rattle.std.proofs.Common.{◌≡◌, ◌<◌, ℕ, get_or, arith}
use Rattle.std.proofs.lemmas.Bool.Decides.{nat_tests}
use Rattle.sm_wire.proofs.NameLemmas.{same_ends}
use Rattle.sm_wire.proofs.recent_names.are_same.Goals as goal

pub returns-then-x-y : goal.returns-then-x-y
returns-then-x-y c e =
    let x = c.in-Some.x in
    let y = c.in-Some-ends_of.y in
    let last : x.last ≡ y.last = grind (arith, nat_tests, e) in
    let a_bytes : (i : ℕ) → get_or c.args.a.now i 0 < 256 = λ i. omega (arith, c.type_inv.a i) in
    let b_bytes : (i : ℕ) → get_or c.args.b.now i 0 < 256 = λ i. omega (arith, c.type_inv.b i) in
    same_ends c.args.a.now c.args.b.now x.first x.last a_bytes b_bytes c.if-a-b.true c.if-a-le16.true
    c.in-Some.ensures (rw (c.if-x-y.true, last) c.in-Some-ends_of.ensures)
