-- A policy: the statements of its policy source and the entries of its contexts file.
use Rattle.std.specs.Prelude.{ℕ, Bool, not, ◌&&◌, ◌||◌, nat_lt, List, [], length, position, Option, is_some, unwrap_or}
use Rattle.std.specs.Str.{bytes_eq}
use Rattle.sm_values.specs.Permissions.{perm_of}
use Rattle.sm_values.specs.declared.class.Class.{Class}
use Rattle.sm_values.specs.declared.perms.Perms.{Perms}
use Rattle.sm_ruletext.specs.declared.statement.Statement.{Statement}
use Rattle.sm_types.specs.Names.{at}
use Rattle.sm_types.specs.Denoting.{types, declares}
use Rattle.sm_contexts.specs.Reading.{Entry, label}
use Rattle.sm_rules.specs.Access as access
use Rattle.sm_matrices.specs.declared.decision.Decision.{Decision}

-- A policy has the statements of its source and the entries of its contexts file.
pub record Policy : Type 0 where
  pub statements : List Statement
  pub entries : List Entry

-- This policy declares nothing and allows nothing.
abbrev pub no_policy : Policy
no_policy = record { statements = []; entries = [] }

-- Some allow rule grants the source type this permission on the target type.
abbrev pub written : Policy → List ℕ → List ℕ → Class → Perms → Bool
written policy source target class perm = access.written policy.statements source target class perm

-- The policy source makes the type permissive.
abbrev pub is_permissive : Policy → List ℕ → Bool
is_permissive policy source = access.is_permissive policy.statements source

-- Some dontaudit rule covers the access.
abbrev pub silenced : Policy → List ℕ → List ℕ → Class → Perms → Bool
silenced policy source target class perm = access.silenced policy.statements source target class perm

-- A check passes: some allow rule grants the permission; or the source is permissive, the target is declared, and the
-- permission is a single one of the class.
unfoldable pub allowed : Policy → List ℕ → List ℕ → Class → Perms → Bool
allowed policy source target class perm =
    written policy source target class perm
    || (is_permissive policy source && (declares policy.statements target && is_some (perm_of class perm)))

-- A check is audited, passed or not: no allow rule grants the permission, and no dontaudit rule covers it.
unfoldable pub audits : Policy → List ℕ → List ℕ → Class → Perms → Bool
audits policy source target class perm =
    not (written policy source target class perm) && not (silenced policy source target class perm)

-- A decision says whether the access is allowed, and whether it is audited.
abbrev pub decision : Policy → List ℕ → List ℕ → Class → Perms → Decision
decision policy source target class perm = record {
  allowed = allowed policy source target class perm;
  audited = audits policy source target class perm;
}

-- This is the line of the first allow rule that grants the permission.
unfoldable pub written_at : Policy → List ℕ → List ℕ → Class → Perms → Option ℕ
written_at policy source target class perm = access.written_line policy.statements source target class perm

-- This is the number of a declared type. Types are numbered from 0 in the order of their declaration.
abbrev pub type_index : Policy → List ℕ → Option ℕ
type_index policy name = position (bytes_eq name) (types policy.statements)

-- The same as `allowed`, for the types of these numbers. Nothing is allowed if a number has no type.
abbrev pub allowed_at : Policy → ℕ → ℕ → Class → Perms → Bool
allowed_at policy source target class perm =
    (nat_lt source (length (types policy.statements)) && nat_lt target (length (types policy.statements)))
    && allowed policy (at (types policy.statements) source) (at (types policy.statements) target) class perm

-- This is the context of the services of a name.
unfoldable pub label_of : Policy → List ℕ → List ℕ
label_of policy name = unwrap_or (label policy.entries name) []

-- Nothing that an allow rule grants is forbidden by a neverallow rule. What only a permissive type may do doesn't
-- count.
pub record IsConsistent (policy : Policy) : Type 0 where
  pub apart : access.IsConsistent policy.statements

-- A policy has a version.
pub record Versioned : Type 0 where
  pub policy : Policy
  pub number : ℕ
