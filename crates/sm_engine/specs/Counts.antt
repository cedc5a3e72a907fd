-- What clauses read of a `Counted`.
use Rattle.std.specs.Prelude.{◌≡◌, ◌<◌, ◌⊎◌, ℕ, ◌+◌, ◌^◌, ◌-◌, min, Result, Err, OnErr}
use Rattle.sm_engine.specs.declared.counted.Counted.{Counted}
use Rattle.sm_engine.specs.declared.fault.Fault.{Fault, TheVariants.WriteFault, TheVariants.Memory}

-- This is the number of calls.
abbrev pub calls_of : {T : Type 0} → Counted T → ℕ
calls_of c = c.calls

-- This is the number of calls that failed.
abbrev pub failures_of : {T : Type 0} → Counted T → ℕ
failures_of c = c.failures

-- This is the reader or writer inside.
abbrev pub inner_of : {T : Type 0} → Counted T → T
inner_of c = c.inner

-- This is the greatest count.
abbrev pub greatest_count : ℕ
greatest_count = 2 ^ 64 - 1

-- A count goes up by one, unless it is the greatest.
abbrev pub one_more : ℕ → ℕ
one_more n = min (n + 1) greatest_count

-- An error says that a write failed, exactly if one did, or that an allocation failed.
pub record Reports {T W : Type 0} (result : Result T Fault) (w w_new : Counted W) : Type 0 where
  pub fault : OnErr result ((result ≡ Err WriteFault) ⊎ (result ≡ Err Memory))
  pub write_fault : result ≡ Err WriteFault → failures_of w < failures_of w_new
  pub write_told : failures_of w < failures_of w_new → result ≡ Err WriteFault
