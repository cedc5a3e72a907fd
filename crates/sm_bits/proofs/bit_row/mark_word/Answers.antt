use Rattle.std.proofs.Common.{inl, inr, rules, arith, ℕ, ◌+◌, ◌*◌, ◌/◌, ◌^◌, ◌<◌, get_or, w64}
use Rattle.std.specs.Int.{trailing_zeros}
use Rattle.std.proofs.lemmas.Bool.{cases_lt}
use Rattle.sm_bits.proofs.Marking.{none_behind, least_behind, marked_more}
use Rattle.sm_bits.proofs.bit_row.mark_word.Goals as goal

pub returns-then-rest-eq0-clause-inside : goal.returns-then-rest-eq0-clause-inside
returns-then-rest-eq0-clause-inside c j b short here =
    let i : ℕ = 64 * c.args.place + c.loop-from.from in
    elim (cases_lt j i) [
      | inl h ↦ c.loop-from.invariant.inside j b (omega (arith, short, c.loop-from.auto.bytes)) (omega (arith, here)) h
      | inr h ↦ (let none = none_behind c.args.words.now c.args.place c.loop-from.from j c.loop-from-test.true
          c.if-rest-eq0.true h here in
          let same = c.loop-from.invariant.above j (omega (arith, short, c.loop-from.auto.bytes)) h in
          search (rules, none, same))
    ]

pub returns-then-j-bytes-clause-inside : goal.returns-then-j-bytes-clause-inside
returns-then-j-bytes-clause-inside c j b short here =
    let words = c.args.words.now in
    let i : ℕ = 64 * c.args.place + c.loop-from.from in
    let some : 0 < get_or words c.args.place 0 / 2 ^ c.loop-from.from = omega (arith, c.if-rest-eq0.false) in
    let known = c.type_inv.words c.args.place in
    let fits : get_or words c.args.place 0 < 2 ^ 64 = grind (arith, rules, known) in
    let least = least_behind words c.args.place c.loop-from.from c.loop-from-test.true fits some in
    elim (cases_lt j i) [
      | inl h ↦ c.loop-from.invariant.inside j b (omega (arith, short, c.loop-from.auto.bytes)) (omega (arith, here)) h
      | inr h ↦ (let none = least.before j h (omega (arith, short, c.loop-from.auto.bytes, c.if-j-bytes.true)) in
          let same = c.loop-from.invariant.above j (omega (arith, short, c.loop-from.auto.bytes)) h in
          search (rules, none, same))
    ]

pub loop-from-preserved : goal.loop-from-preserved
loop-from-preserved c =
    let words = c.args.words.now in
    let some : 0 < get_or words c.args.place 0 / 2 ^ c.loop-from.from = omega (arith, c.if-rest-eq0.false) in
    let known = c.type_inv.words c.args.place in
    let fits : get_or words c.args.place 0 < 2 ^ 64 = grind (arith, rules, known) in
    let least = least_behind words c.args.place c.loop-from.from c.loop-from-test.true fits some in
    let z : ℕ = trailing_zeros w64 (get_or words c.args.place 0 / 2 ^ c.loop-from.from) in
    let marked = marked_more words c.loop-from.bytes c.args.bytes.now c.args.place c.loop-from.from z
    c.with_bit.result c.args.bit (
    record {
      inside = c.loop-from.invariant.inside;
      below = c.loop-from.invariant.below;
      above = c.loop-from.invariant.above;
    }
    ) (omega (arith, c.if-j-bytes.false)) least.has_it (λ j from h. least.before j from (omega (arith, h)))
    c.with_bit.ensures in
    record {
      within = omega (arith, least.within, c.loop-from-test.true);
      inside = marked.inside;
      below = marked.below;
      above = marked.above;
    }
