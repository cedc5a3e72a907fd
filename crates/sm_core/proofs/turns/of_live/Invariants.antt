use Rattle.std.proofs.Common.{◌≡◌, ℕ, ◌==◌, map, take, unwrap_or, if◌then◌else◌}
use Rattle.std.specs.HashMap.{get}
use Rattle.std.specs.List.{list_any}
use Rattle.sm_history.specs.declared.by.By.TheVariants.{Client}
use Rattle.sm_core.specs.declared.client.LiveClient.{LiveClient}
use Rattle.sm_core.specs.Counting.{change_count}
use Rattle.sm_core.proofs.turns.of_live.Given as goal

-- The counts of those that were gone through.
abbrev pub invariant-loop-row : goal.invariant-loop-row
invariant-loop-row l = (c : ℕ) → unwrap_or (get (◌==◌) l.older c) 0
    ≡ (if list_any (λ k. k == c) (map (λ (r : LiveClient). r.id) (take l.row-index l.fn.live))
    then change_count l.fn.turns (Client (record { 0 = c })) else 0)
