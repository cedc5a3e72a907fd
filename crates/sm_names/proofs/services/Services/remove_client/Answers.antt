use Rattle.std.specs.Prelude.{not, ◌==◌}
use Rattle.std.proofs.lemmas.List.Sums.{length-filter, count_by-le-length}
use Rattle.sm_history.specs.declared.named_row.NamedRow.{NamedRow}
use Rattle.sm_history.proofs.AfterNamedRows.{names_die}
use Rattle.sm_names.proofs.services.Services.remove_client.Goals as goal

pub returns-clause-tracks : goal.returns-clause-tracks
returns-clause-tracks c d tr =
    rw c.remove_client.ensures.items (names_die d c.args.self.now.rows.items c.args.client tr)

pub returns-clause-kept : goal.returns-clause-kept
returns-clause-kept c =
    let p = λ (r : NamedRow). not (c.args.client == r.service.node.owner.0) in
    let rows = c.args.self.now.rows.items in
    (c.remove_client.ensures.kept, rw (c.remove_client.ensures.items, length-filter p rows) (count_by-le-length p rows))
