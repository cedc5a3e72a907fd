-- Lines that are written through a buffer.
use Rattle.std.specs.Prelude.{◌≡◌, ◌<◌, ◌⊎◌, ℕ, List, ◌++◌, Option}
use Rattle.std.specs.Io.KnownBytes.{Appends}
use Rattle.sm_engine.specs.declared.fault.Fault.{Fault, TheVariants.WriteFault, TheVariants.Memory}

-- A prefix of what was held and of the lines was written, and the rest is held.
pub record Passes (old new : Option (List ℕ)) (held rest lines : List ℕ) : Type 0 where
  pub written : List ℕ
  pub appended : Appends old new written
  pub joined : held ++ lines ≡ written ++ rest

-- A prefix of what was held and of the lines was written, and the rest is lost.
pub record Stops (old new : Option (List ℕ)) (held lines : List ℕ) : Type 0 where
  pub written : List ℕ
  pub missing : List ℕ
  pub appended : Appends old new written
  pub joined : held ++ lines ≡ written ++ missing

-- A write failed and was counted, or an allocation failed.
abbrev pub Fails : Fault → ℕ → ℕ → Type 0
Fails fault old new = ((fault ≡ WriteFault) × (old < new)) ⊎ ((fault ≡ Memory) × (new ≡ old))
