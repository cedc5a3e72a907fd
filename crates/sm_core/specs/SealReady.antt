-- Seals that were made ready.
use Rattle.std.specs.Prelude.{◌≡◌, ◌≢◌, []}
use Rattle.sm_history.specs.declared.by.By.{By}
use Rattle.sm_history.specs.Histories.{turn_of}
use Rattle.sm_history.specs.Segments.{admins_of, sealed}
use Rattle.sm_core.specs.declared.sealing.ReadySeal.{ReadySeal}
use Rattle.sm_core.specs.Counting.{counted_admins, change_count}
use Rattle.sm_history.specs.Books.{Book}

-- The open segment has changes, and the next one and its counts are made.
pub record IsReadySeal (b : Book) (r : ReadySeal) : Type 0 where
  pub some : b.history.entries ≢ []
  pub opens : r.journal.history ≡ sealed b.history
  pub turns : (by : By) → change_count r.turns by ≡ turn_of (sealed b.history) by
  pub admins : counted_admins r.turns ≡ admins_of (sealed b.history)
