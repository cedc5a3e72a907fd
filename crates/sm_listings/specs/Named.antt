-- What `svcmgr names` writes.
use Rattle.std.specs.Prelude.{Bool, if◌then◌else◌, List, [], ◌++◌, Option, Some, None, filter, codes}
use Rattle.std.specs.List.{flat_map}
use Rattle.sm_values.specs.Contexts.{type_of}
use Rattle.sm_values.specs.declared.class.Class.TheVariants.{ServiceManager}
use Rattle.sm_values.specs.declared.perms.Perms.{Perms}
use Rattle.sm_types.specs.Names.{Name}
use Rattle.sm_contexts.specs.Reading.{Entry}
use Rattle.sm_policy.specs.Policy.{Policy, allowed}

-- A source is allowed a permission on the type of the label that an entry gives.
abbrev pub is_allowed : Policy → Name → Perms → Entry → Bool
is_allowed policy source perm e = allowed policy source (type_of e.context) ServiceManager perm

-- These are the entries on whose types a source is allowed a permission, in the order of the contexts file.
abbrev pub allowed_entries : Policy → Name → Perms → List Entry
allowed_entries policy source perm = filter (is_allowed policy source perm) policy.entries

-- This is the line of an entry: its key, and the type of its label.
abbrev pub name_line : Entry → Name
name_line e = e.key ++ codes " " ++ type_of e.context ++ codes "\n"

-- These are the lines of the names for which a source is allowed a permission.
unfoldable pub name_lines : Policy → Name → Perms → Name
name_lines policy source perm = flat_map name_line (allowed_entries policy source perm)

-- ---- entry by entry

-- This is the line of an entry, if the source is allowed the permission.
abbrev pub allowed_line : Policy → Name → Perms → Entry → Name
allowed_line policy source perm e = if is_allowed policy source perm e then name_line e else []

-- This is the line of an entry, if there is one.
abbrev pub line_of : Policy → Name → Perms → Option Entry → Name
line_of policy source perm None = []
line_of policy source perm (Some e) = allowed_line policy source perm e
