use Rattle.std.proofs.Common.{◌≡◌, ◌∙◌, ◌<◌, sym, ap, not, true, false, length, arith}
use Rattle.sm_suggestions.specs.LogWords.{is_word}
use Rattle.sm_suggestions.proofs.LogParts.{no_word_more, word_more, words_end}
use Rattle.sm_suggestions.proofs.log_words.words_of.Goals as goal

pub parts-preserved-in_ok-push : goal.parts-preserved-in_ok-push
parts-preserved-in_ok-push c =
    let some : 0 < length c.parts.rest.now = grind arith in
    let is : is_word c.first_part.result.0.now ≡ true =
    ap not (sym c.is_empty-in-parts.ensures ∙ c.if-not-is_empty.true) in
    rw (c.in_ok-push.ensures.items, c.new.ensures)
    (word_more c.parts.rest.now c.parts.words.items c.first_part.result.0.now c.first_part.result.1.now some
    c.first_part.ensures.part c.first_part.ensures.rest is
    ∙ c.parts.invariant)

pub parts-preserved : goal.parts-preserved
parts-preserved c =
    let some : 0 < length c.parts.rest.now = grind arith in
    let none : is_word c.first_part.result.0.now ≡ false =
    ap not (sym c.is_empty-in-parts.ensures ∙ c.if-not-is_empty.false) in
    no_word_more c.parts.rest.now c.parts.words.items c.first_part.result.0.now c.first_part.result.1.now some
    c.first_part.ensures.part c.first_part.ensures.rest none
    ∙ c.parts.invariant

pub returns : goal.returns
returns c =
    let none : length c.parts.rest.now ≡ 0 = grind arith in
    words_end c.parts.words.items c.parts.rest.now c.args.line.now none c.parts.invariant
