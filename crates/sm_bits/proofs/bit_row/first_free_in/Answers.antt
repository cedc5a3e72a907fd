use Rattle.std.proofs.Common.{◌≡◌, ℕ, ◌+◌, ◌*◌, ◌^◌, ◌<◌, ◌≤◌, length, arith, rules, get_or, refl, subst, sym, true}
use Rattle.sm_bits.specs.Bits.{has}
use Rattle.sm_bits.proofs.Words.{has_past}
use Rattle.sm_bits.proofs.FreeNumbers.{full_more, free_found}
use Rattle.sm_bits.proofs.bit_row.first_free_in.Goals as goal

pub returns-then-word-clause-free : goal.returns-then-word-clause-free
returns-then-word-clause-free c =
    let w : ℕ = get_or c.args.words.now c.loop-i.i 0 in
    let fits = c.type_inv.words c.loop-i.i in
    let less : w + 1 < 2 ^ 64 = grind (arith, rules, fits, c.if-word.true) in
    rw c.trailing_ones.ensures
    ((free_found c.args.words.now (64 * c.args.first) c.loop-i.i w refl less c.loop-i.invariant).0)

pub returns-then-word-clause-least : goal.returns-then-word-clause-least
returns-then-word-clause-least c =
    let w : ℕ = get_or c.args.words.now c.loop-i.i 0 in
    let fits = c.type_inv.words c.loop-i.i in
    let less : w + 1 < 2 ^ 64 = grind (arith, rules, fits, c.if-word.true) in
    subst (λ (t : ℕ). (j : ℕ) → 64 * c.args.first ≤ j → j < 64 * c.loop-i.i + t → has c.args.words.now j ≡ true)
    (sym c.trailing_ones.ensures)
    ((free_found c.args.words.now (64 * c.args.first) c.loop-i.i w refl less c.loop-i.invariant).1)

pub loop-i-preserved : goal.loop-i-preserved
loop-i-preserved c = full_more c.args.words.now (64 * c.args.first) c.loop-i.i _ refl c.if-word.false c.loop-i.invariant

pub returns-clause-free : goal.returns-clause-free
returns-clause-free c = has_past c.args.words.now (64 * length c.args.words.now) (omega arith)
