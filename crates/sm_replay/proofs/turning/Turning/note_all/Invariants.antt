use Rattle.std.proofs.Common.{◌≡◌, ℕ, [], map, take}
use Rattle.sm_history.specs.declared.by.By.{By}
use Rattle.sm_history.specs.Segments.{admin}
use Rattle.sm_replay.specs.Turning.{admins_in, is_known, made}
use Rattle.sm_replay.proofs.turning.Turning.note_all.Given as goal

abbrev pub invariant-loop-row : goal.invariant-loop-row
invariant-loop-row l =
    ((b : By) → made l.self b ≡ made l.fn.self b) × ((a : ℕ) → is_known l.self a ≡ is_known l.fn.self a)
    × (l.fn.self.order.items ≡ [] → map admin l.self.order.items ≡ admins_in (take l.row-index l.fn.rows))
