use Rattle.std.proofs.Common.{rules}
use Rattle.std.specs.Prelude.{not, ◌==◌}
use Rattle.std.proofs.lemmas.Fn.{filter_same}
use Rattle.sm_history.specs.declared.client_row.ClientRow.{ClientRow}
use Rattle.sm_replay.proofs.AfterClientRows.{tracks_dies}
use Rattle.sm_replay.proofs.live.remove_client.Goals as goal

pub returns : goal.returns
returns c d s tr may =
    let left = filter_same _ (λ (r : ClientRow). not (r.client == c.args.client)) _ (λ x b f' k. search rules) _ _
    c.retain.ensures.filtered in
    rw left (tracks_dies d c.args.client c.args.live.now.items s may tr)
