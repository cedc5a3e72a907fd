-- Live clients, as rows of a segment.
use Rattle.std.specs.Prelude.{ℕ, ◌≡◌, List, [], ◌∷◌}
use Rattle.sm_history.specs.declared.client_row.ClientRow.{ClientRow as Listed}
use Rattle.sm_history.specs.Effects.{Effects}
use Rattle.sm_history.specs.Inboxes.{inbox_at}
use Rattle.sm_history.specs.Tables.{slot, slot_at}
use Rattle.sm_core.specs.declared.client.LiveClient.{LiveClient}

-- A client's row has its process, its handles and its inbox.
pub record IsListed (d : Effects) (r : LiveClient) (l : Listed) : Type 0 where
  pub client : l.client ≡ r.id
  pub who : l.who ≡ r.process.who
  pub held : (k : ℕ) → slot l.held.items k ≡ slot_at d r.id k
  pub waiting : l.waiting.items ≡ inbox_at d r.id

-- The rows are those of the clients, one by one.
abbrev pub AreListed : Effects → List LiveClient → List Listed → Type 0
AreListed d [] [] = Unit {0}
AreListed d [] (l ∷ ls) = ⊥
AreListed d (r ∷ rs) [] = ⊥
AreListed d (r ∷ rs) (l ∷ ls) = IsListed d r l × AreListed d rs ls
