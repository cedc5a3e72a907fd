use Rattle.std.proofs.Common.{◌∙◌, rules}
use Rattle.sm_core.proofs.Calling.{row_found, called, row_guessed}
use Rattle.sm_core.proofs.principals.Principals.client.Goals as goal

pub returns : goal.returns
returns c d s =
    called (λ r. r.now) _ _ _ _ (row_found d c.as_slice-rows.result.now c.args.id
    (c.as_slice-rows.ensures.value ∙ s.clients)) c.first_row.ensures

pub returns-then-row-id : goal.returns-then-row-id
returns-then-row-id c d s =
    row_guessed d c.as_slice-rows.result.now c.args.id c.min-place.result c.index-rows-place.result
    (c.as_slice-rows.ensures.value ∙ s.clients) (search rules) c.index-rows-place.is (search rules)
