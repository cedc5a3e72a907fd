-- What passes between two processes without a record.
use Rattle.std.specs.Prelude.{Bool, ◌&&◌, ◌==◌, not, if◌then◌else◌}
use Rattle.sm_values.specs.declared.class.Class.TheVariants.{Binder}
use Rattle.sm_values.specs.declared.perms.Perms.{Perms}
use Rattle.sm_values.specs.declared.identity.Identity.{Identity}
use Rattle.sm_values.specs.Contexts.{type_of}
use Rattle.sm_policy.specs.Policy.{Policy, allowed, audits}
use Rattle.sm_history.specs.Checks.{calling, transferring}
use Rattle.sm_core.specs.declared.way.Way.{Way}

-- A policy grants a permission of Binder from one process to another without a record.
unfoldable pub is_quiet : Policy → Identity → Identity → Perms → Bool
is_quiet p source target perm =
    allowed p (type_of source.context) (type_of target.context) Binder perm
    && not (audits p (type_of source.context) (type_of target.context) Binder perm)

-- This is the way from one process to another under a policy.
unfoldable pub way_under : Policy → Identity → Identity → Way
way_under p source target = record {
  call = is_quiet p source target calling;
  transfer = is_quiet p source target transferring;
}

-- A way is known to grant a permission: it is one of the two, and granted without a record.
abbrev pub grants : Way → Perms → Bool
grants w perm = if perm.0 == calling.0 then w.call else (perm.0 == transferring.0 && w.transfer)
