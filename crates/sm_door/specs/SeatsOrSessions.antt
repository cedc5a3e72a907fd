-- What a client's slot knows, with or without a client.
use Rattle.std.specs.Prelude.{Result, Ok, Err}
use Rattle.sm_history.specs.Tokens.{Knows}

-- Without a client it is what a free seat knows.
abbrev pub sits : Result Knows Knows → Knows
sits (Ok session) = session
sits (Err seat) = seat
