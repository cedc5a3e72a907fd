-- The number of clients that hold an object.
use Rattle.std.specs.Prelude.{ℕ, ◌&&◌, not, ◌==◌, count_by}
use Rattle.sm_values.specs.declared.number.Node.{Node}
use Rattle.sm_history.specs.Effects.{Effects}
use Rattle.sm_history.specs.Clients.{live_clients}
use Rattle.sm_history.specs.Holdings.{is_held}

-- This is the number of live clients other than c that hold an object.
abbrev pub holders_at : Effects → ℕ → Node → ℕ
holders_at d c n = count_by (λ k. not (k == c) && is_held d k n) (live_clients d)
