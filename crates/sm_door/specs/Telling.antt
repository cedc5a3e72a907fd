-- What a token knows after it was told the manager's state.
use Rattle.std.specs.Prelude.{◌≡◌, ◌<◌}
use Rattle.sm_history.specs.Tokens.{Knows, Grows}
use Rattle.sm_status.specs.States.{State, state_of}

-- The token has read the published history once more at least. The state is the one that the history left which it sees
-- now: a lawful one, which begins with all that it had seen.
pub record TellsState (old new : Knows) (s : State) : Type 0 where
  pub grows : Grows old new
  pub entered : old.reads < new.reads
  pub is : s ≡ state_of new.seen.history
