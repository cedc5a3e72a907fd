use Rattle.std.specs.Prelude.{vec_len}
use Rattle.sm_serve.proofs.accounts.Accounts.into_gathered.Given as goal

abbrev pub decreases-loop-account : goal.decreases-loop-account
decreases-loop-account g l = vec_len l.left
