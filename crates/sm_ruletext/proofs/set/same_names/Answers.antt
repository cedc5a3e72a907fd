use Rattle.std.proofs.Common.{◌∙◌, sym, [], arith}
use Rattle.std.proofs.lemmas.List.{ext_get_or}
use Rattle.sm_ruletext.proofs.set.same_names.Goals as goal

pub returns : goal.returns
returns c t =
    sym c.list-a.ensures ∙ (ext_get_or [] c.list-a.result.now c.list-b.result.now (omega arith)
    (λ i h. c.loop-i.invariant i (omega arith)) ∙ c.list-b.ensures)
