-- What `svcmgr explain` writes.
use Rattle.std.specs.Prelude.{ℕ, Bool, ◌||◌, if◌then◌else◌, List, [], ◌++◌, Option, Some, None, codes}
use Rattle.sm_values.specs.declared.class.Class.{Class}
use Rattle.sm_values.specs.declared.perms.Perms.{Perms}
use Rattle.sm_values.specs.Messages.{numbered}
use Rattle.sm_policy.specs.Policy.{Policy, written, written_at, is_permissive}

-- The first line has the line of the rule that grants the access, if there is one.
abbrev pub reason : Option ℕ → List ℕ
reason None = codes "unwritten\n"
reason (Some line) = numbered (codes "allowed ") line ++ codes "\n"

-- The second line says that the source is permissive.
abbrev pub note : Bool → List ℕ
note permissive = if permissive then codes "permissive\n" else []

-- These are the lines for an access.
abbrev pub explanation : Policy → List ℕ → List ℕ → Class → Perms → List ℕ
explanation policy source target class perm =
    reason (written_at policy source target class perm) ++ note (is_permissive policy source)

-- Some allow rule grants the access, or its source is permissive.
abbrev pub passes : Policy → List ℕ → List ℕ → Class → Perms → Bool
passes policy source target class perm = written policy source target class perm || is_permissive policy source
