use Rattle.std.proofs.Common.{inl, inr, ◌<◌, ◌/◌, ◌%◌, ◌^◌, arith, rules, refl, get_or}
use Rattle.std.proofs.lemmas.Bool.{cases_lt}
use Rattle.sm_bits.proofs.Words.{has_past}
use Rattle.sm_bits.proofs.NextNumbers.{least_found, none_left}
use Rattle.sm_bits.proofs.bit_row.next_in.Goals as goal

pub returns-then-rest-ne0-clause-some : goal.returns-then-rest-ne0-clause-some
returns-then-rest-ne0-clause-some c =
    let words = c.args.words.now in
    let i = c.loop-i.i in
    let some : 0 < get_or words (i / 64) 0 / 2 ^ (i % 64) = omega (arith, c.if-rest-ne0.true) in
    let known = c.type_inv.words (i / 64) in
    let fits : get_or words (i / 64) 0 < 2 ^ 64 = grind (arith, rules, known) in
    let least = least_found words i _ refl fits some in (
      omega (arith, c.loop-i.invariant.after),
      omega (arith, least.within, c.loop-i-test.true),
      least.has_it,
    )

pub returns-then-rest-ne0-clause-first : goal.returns-then-rest-ne0-clause-first
returns-then-rest-ne0-clause-first c j from h =
    let words = c.args.words.now in
    let i = c.loop-i.i in
    let some : 0 < get_or words (i / 64) 0 / 2 ^ (i % 64) = omega (arith, c.if-rest-ne0.true) in
    let known = c.type_inv.words (i / 64) in
    let fits : get_or words (i / 64) 0 < 2 ^ 64 = grind (arith, rules, known) in
    elim (cases_lt j i) [
      | inl below ↦ c.loop-i.invariant.none j from below
      | inr behind ↦ (least_found words i _ refl fits some).before j behind h
    ]

pub loop-i-preserved : goal.loop-i-preserved
loop-i-preserved c =
    record {
      after = omega (arith, c.loop-i.invariant.after);
      none = λ j a b. elim (cases_lt j c.loop-i.i) [
        | inl h ↦ c.loop-i.invariant.none j a h
        | inr h ↦ none_left c.args.words.now c.loop-i.i j _ refl c.if-rest-ne0.false h b
      ];
    }

pub returns-clause-none : goal.returns-clause-none
returns-clause-none c j a = elim (cases_lt j c.loop-i.i) [
  | inl h ↦ c.loop-i.invariant.none j a h
  | inr h ↦ has_past c.args.words.now j (omega (arith, c.loop-i-test.false, h))
]
