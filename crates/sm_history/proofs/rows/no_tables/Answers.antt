use Rattle.std.proofs.Common.{List, [], refl, sym, subst}
use Rattle.sm_history.specs.declared.client_row.ClientRow.{ClientRow}
use Rattle.sm_history.specs.Rows.{NamedRow}
use Rattle.sm_history.specs.Tables.{TracksClients, TracksNames}
use Rattle.sm_history.proofs.SoundHistory.{sound_none}
use Rattle.sm_history.proofs.rows.no_tables.Goals as goal

no_clients : TracksClients [] []
no_clients = record { ids = refl; each = λ c. tt }

no_names : TracksNames [] []
no_names = record { services = λ name. refl; rises = tt }

pub returns-clause-left : goal.returns-clause-left
returns-clause-left c = (
  [],
  sound_none,
  record {
    manager = refl;
    policy = refl;
    version = refl;
    clients = refl;
    live = subst (λ (l : List ClientRow). TracksClients [] l) (sym c.new.ensures.items) no_clients;
    names = subst (λ (l : List NamedRow). TracksNames [] l) (sym c.new-2.ensures.items) no_names;
    watches = c.new-3.ensures.items;
  },
)
