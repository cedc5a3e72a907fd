use Rattle.std.proofs.Common.{◌<◌, ◌≤◌, ◌^◌, length, get_or, refl, arith}
use Rattle.std.specs.Prelude.{count_ones}
use Rattle.std.proofs.lemmas.List.Sums.{sum_by_more}
use Rattle.std.proofs.lemmas.Nat.{ones-le}
use Rattle.sm_bits.proofs.bit_row.count_words.Goals as goal

pub loop-word-preserved : goal.loop-word-preserved
loop-word-preserved c =
    let words = c.args.words.now in
    let i = c.loop-word.word-index in
    let inside : i < length words = omega arith in
    let word : get_or words i 0 < 2 ^ 64 = omega (arith, c.type_inv.words i) in
    let few : count_ones (get_or words i 0) ≤ 64 = ones-le 64 (get_or words i 0) word in
    record {
      counted = rw (sum_by_more count_ones words i 0 inside, ← c.loop-word.invariant.counted) refl;
      most = omega (arith, few);
    }
