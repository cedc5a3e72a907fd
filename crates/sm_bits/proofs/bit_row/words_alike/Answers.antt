use Rattle.std.proofs.Common.{ℕ, ◌+◌, ◌*◌, ◌^◌, ◌<◌, ◌≤◌, arith, rules, get_or, w64}
use Rattle.std.specs.Int.{trailing_zeros}
use Rattle.std.specs.Prelude.{bit_xor}
use Rattle.std.proofs.lemmas.Bool.{leb-true, leb-false}
use Rattle.std.proofs.lemmas.Nat.{xor_lt}
use Rattle.sm_bits.proofs.Differing.{alike_more, first_difference}
use Rattle.sm_bits.proofs.bit_row.words_alike.Goals as goal

pub returns-then-differing-ne0-clause-same : goal.returns-then-differing-ne0-clause-same
returns-then-differing-ne0-clause-same c e j h =
    let x : ℕ = get_or c.args.words.now c.loop-i.i 0 in
    let y : ℕ = get_or c.args.others.now c.loop-i.i 0 in
    let known = c.type_inv.words c.loop-i.i in
    let theirs = c.type_inv.others c.loop-i.i in
    let fits : x < 2 ^ 64 = grind (arith, rules, known) in
    let fits_too : y < 2 ^ 64 = grind (arith, rules, theirs) in
    let some : 0 < bit_xor x y = omega (arith, c.if-differing-ne0.true) in
    let found = first_difference c.args.words.now c.args.others.now c.loop-i.i some (xor_lt 64 x y fits fits_too)
    c.loop-i.invariant in
    let low : c.args.end ≤ 64 * c.loop-i.i + trailing_zeros w64 (bit_xor x y) = leb-true _ _ e in
    found.alike j (omega (arith, low, h))

pub returns-then-differing-ne0-clause-other : goal.returns-then-differing-ne0-clause-other
returns-then-differing-ne0-clause-other c e =
    let x : ℕ = get_or c.args.words.now c.loop-i.i 0 in
    let y : ℕ = get_or c.args.others.now c.loop-i.i 0 in
    let known = c.type_inv.words c.loop-i.i in
    let theirs = c.type_inv.others c.loop-i.i in
    let fits : x < 2 ^ 64 = grind (arith, rules, known) in
    let fits_too : y < 2 ^ 64 = grind (arith, rules, theirs) in
    let some : 0 < bit_xor x y = omega (arith, c.if-differing-ne0.true) in
    let found = first_difference c.args.words.now c.args.others.now c.loop-i.i some (xor_lt 64 x y fits fits_too)
    c.loop-i.invariant in
    (64 * c.loop-i.i + trailing_zeros w64 (bit_xor x y), leb-false _ _ e, found.differs)

pub loop-i-preserved : goal.loop-i-preserved
loop-i-preserved c =
    alike_more c.args.words.now c.args.others.now c.loop-i.i c.if-differing-ne0.false c.loop-i.invariant
