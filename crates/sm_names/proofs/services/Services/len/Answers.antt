use Rattle.std.proofs.Common.{List, ℕ, length, sym, ap, ◌∙◌}
use Rattle.std.proofs.lemmas.List.{length-map}
use Rattle.sm_history.specs.declared.named_row.NamedRow.{NamedRow}
use Rattle.sm_names.proofs.Tracked.{names_are}
use Rattle.sm_names.proofs.services.Services.len.Goals as goal

pub returns : goal.returns
returns c d tr =
    let rows = c.args.self.now.rows.items in
    c.len.ensures
    ∙ sym (length-map rows (λ (r : NamedRow). r.name))
    ∙ ap (length {A = List ℕ}) (names_are d rows tr)
