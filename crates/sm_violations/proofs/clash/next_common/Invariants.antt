use Rattle.std.proofs.Common.{◌≡◌, ◌<◌, ◌≤◌, ◌*◌, ◌-◌, ℕ, length, false}
use Rattle.sm_violations.specs.Clashing.{in_both}
use Rattle.sm_violations.proofs.clash.next_common.Given as goal

abbrev pub invariant-search : goal.invariant-search
invariant-search l = record {
  behind : l.fn.start ≤ l.from;
  before : (j : ℕ) → l.fn.start ≤ j → j < l.from → in_both l.first l.second j ≡ false;
}

abbrev pub decreases-search : goal.decreases-search
decreases-search l = 64 * length l.first - l.from
