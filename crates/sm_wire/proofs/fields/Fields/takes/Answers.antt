use Rattle.std.proofs.Common.{◌<◌, length, arith}
use Rattle.sm_wire.proofs.FieldLemmas.{word_alone, word_field, other_word, longer_word}
use Rattle.sm_wire.proofs.fields.Fields.takes.Goals as goal

pub returns-then-not-begins_with-clause-other : goal.returns-then-not-begins_with-clause-other
returns-then-not-begins_with-clause-other c _ = rw (← c.self.view_is, c.in-Some.is)
    (other_word c.args.word.now c.in-Some.bytes.now c.requires
    (c.begins_with.ensures.other c.if-not-begins_with.true))

pub returns-then-bytes-word-clause-taken : goal.returns-then-bytes-word-clause-taken
returns-then-bytes-word-clause-taken c _ = rw (← c.self.view_is, c.in-Some.is)
    (word_alone c.args.word.now c.in-Some.bytes.now c.requires
    (c.begins_with.ensures.same c.if-not-begins_with.false) c.if-bytes-word.true)

pub returns-then-bytes-word-ne32-clause-other : goal.returns-then-bytes-word-ne32-clause-other
returns-then-bytes-word-ne32-clause-other c _ =
    let less : length c.args.word.now < length c.in-Some.bytes.now =
    omega (arith, c.begins_with.ensures.long c.if-not-begins_with.false) in
    rw (← c.self.view_is, c.in-Some.is) (longer_word c.args.word.now c.in-Some.bytes.now c.requires
    (c.begins_with.ensures.same c.if-not-begins_with.false) less c.if-bytes-word-ne32.true)

pub returns-clause-taken : goal.returns-clause-taken
returns-clause-taken c _ =
    let less : length c.args.word.now < length c.in-Some.bytes.now =
    omega (arith, c.begins_with.ensures.long c.if-not-begins_with.false) in
    rw (← c.self.view_is, c.in-Some.is) (word_field c.args.word.now c.in-Some.bytes.now c.requires
    (c.begins_with.ensures.same c.if-not-begins_with.false) less c.if-bytes-word-ne32.false)
