use Rattle.std.proofs.Common.{◌∙◌, sym, [], arith}
use Rattle.std.proofs.lemmas.List.{ext_get_or}
use Rattle.sm_ruletext.proofs.set.names_spell.Goals as goal

pub returns : goal.returns
returns c t =
    sym c.list-names.ensures ∙ ext_get_or [] c.list-names.result.now c.args.words.now (omega arith)
    (λ i h. c.loop-i.invariant i (omega arith))
