-- Answers without a change.
use Rattle.std.specs.Prelude.{ℕ}
use Rattle.sm_history.specs.declared.refusal.Refusal.{Refusal}

-- A Get found nothing; a Get found an object of the caller's own, for which this is the caller's number; a refusal.
pub data EarlyAnswer : Type 0 where
  GotNull : EarlyAnswer
  GotOwn : (object : ℕ) → EarlyAnswer
  Refused : Refusal → EarlyAnswer
