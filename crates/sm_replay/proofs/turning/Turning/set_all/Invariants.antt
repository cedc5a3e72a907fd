use Rattle.std.proofs.Common.{◌≡◌, ℕ, ◌-◌, false, drop}
use Rattle.std.specs.List.{list_any}
use Rattle.sm_history.specs.declared.by.By.{By}
use Rattle.sm_history.specs.Openings.{is_same, turns_in}
use Rattle.sm_history.specs.Segments.{admin}
use Rattle.sm_replay.specs.Turning.{admins_in, is_known, made}
use Rattle.sm_replay.proofs.turning.Turning.set_all.Given as goal

abbrev pub invariant-loop-k : goal.invariant-loop-k
invariant-loop-k l =
    (((b : By) → made l.fn.self b ≡ 0) → (b : By) → made l.self b ≡ turns_in (drop (l.n - l.k) l.fn.rows) b)
    × (((a : ℕ) → is_known l.fn.self a ≡ false)
    → (a : ℕ) → is_known l.self a ≡ list_any (is_same (admin a)) (admins_in (drop (l.n - l.k) l.fn.rows)))
    × (l.self.order ≡ l.fn.self.order)
