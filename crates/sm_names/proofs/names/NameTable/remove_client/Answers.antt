use Rattle.sm_names.proofs.names.NameTable.remove_client.Goals as goal

pub returns-clause-tracks : goal.returns-clause-tracks
returns-clause-tracks c d tr = record {
  services = c.remove_client.ensures.tracks d tr.services;
  watches = c.remove_client-2.ensures.tracks d tr.watches;
  order = c.remove_watches.ensures.tracks d tr.order;
}
