use Rattle.std.proofs.Common.{rules}
use Rattle.std.specs.Prelude.{not, ◌==◌}
use Rattle.std.proofs.lemmas.Fn.{filter_same}
use Rattle.sm_history.specs.declared.named_row.NamedRow.{NamedRow}
use Rattle.sm_history.proofs.AfterNamedRows.{names_die}
use Rattle.sm_replay.proofs.named_rows.remove_names.Goals as goal

pub returns : goal.returns
returns c d tr =
    rw (filter_same _ (λ (r : NamedRow). not (c.args.client == r.service.node.owner.0)) _
    (λ x b f' k. search rules) _ _ c.retain.ensures.filtered)
    (names_die d c.args.rows.now.items c.args.client tr)
