-- What `svcmgr access` is asked for.
use Rattle.std.specs.Prelude.{ℕ, List, if◌then◌else◌, Option, Some, None, Result, Ok, Err}
use Rattle.std.specs.Option.{option_or}
use Rattle.sm_values.specs.declared.class.Class.{Class, TheVariants.ServiceManager, TheVariants.Binder}
use Rattle.sm_values.specs.declared.perms.Perms.{Perms}
use Rattle.sm_values.specs.Contexts.{type_of}
use Rattle.sm_values.specs.Permissions.{bit, class_read, perm_read}
use Rattle.sm_values.specs.Reading.{◌>>=◌}
use Rattle.sm_types.specs.Denoting.{declares}
use Rattle.sm_policy.specs.Policy.{Policy, label_of}
use Rattle.sm_questions.specs.declared.filtering.Filter.{Filter}
use Rattle.sm_questions.specs.declared.filtering.FilterOptions.{FilterOptions}
use Rattle.sm_questions.specs.declared.filtering.Target.{Target}
use Rattle.sm_questions.specs.declared.filtering.Target.TheVariants as target
use Rattle.sm_questions.specs.declared.unknown.Unknown.{Unknown}
use Rattle.sm_questions.specs.declared.unknown.Unknown.TheVariants as unknown

-- A word that is given must be a declared type.
abbrev pub declared : Policy → List ℕ → Result (Option (List ℕ)) Unknown
declared policy word = if declares policy.statements word then Ok (Some word) else Err (unknown.Type word)

-- This is the source that is asked for, if one is.
abbrev pub source_of : Policy → Option (List ℕ) → Result (Option (List ℕ)) Unknown
source_of policy None = Ok None
source_of policy (Some word) = declared policy word

-- This is the target that is asked for, if one is. Of a service's name it is the type of its label.
abbrev pub target_of : Policy → Target → Result (Option (List ℕ)) Unknown
target_of policy target.Any = Ok None
target_of policy (target.Type word) = declared policy word
target_of policy (target.Name name) = Ok (Some (type_of (label_of policy name)))

-- A class that is read is asked for.
abbrev pub class_or : List ℕ → Option Class → Result (Option Class) Unknown
class_or word None = Err (unknown.Class word)
class_or word (Some class) = Ok (Some class)

-- This is the class that is asked for, if one is.
abbrev pub class_of : Option (List ℕ) → Result (Option Class) Unknown
class_of None = Ok None
class_of (Some word) = class_or word (class_read word)

-- These are the permissions of a class, or of all classes.
abbrev pub all_perms : Option Class → Perms
all_perms (Some ServiceManager) = bit 7
all_perms (Some Binder) = bit 120
all_perms None = bit 127

-- This is the permission of a class, or of any class, that a word names.
abbrev pub single_perm : Option Class → List ℕ → Option Perms
single_perm (Some class) word = perm_read class word
single_perm None word = option_or (perm_read ServiceManager word) (perm_read Binder word)

-- A permission that is read is asked for.
abbrev pub perm_or : List ℕ → Option Perms → Result Perms Unknown
perm_or word None = Err (unknown.Permission word)
perm_or word (Some perm) = Ok perm

-- These are the permissions that are asked for.
abbrev pub perms_of : Option Class → Option (List ℕ) → Result Perms Unknown
perms_of class None = Ok (all_perms class)
perms_of class (Some word) = perm_or word (single_perm class word)

-- These are the permissions that a class and a permission leave, each if it is given.
abbrev pub perms_in : Option (List ℕ) → Option (List ℕ) → Result Perms Unknown
perms_in class perm = class_of class >>= λ c. perms_of c perm

-- This is what the options ask for, or the first word that names nothing.
abbrev pub filter_of : Policy → FilterOptions → Result Filter Unknown
filter_of policy options =
    source_of policy options.source >>= λ source.
    target_of policy options.target >>= λ target.
    perms_in options.class options.perm >>= λ perms.
    Ok (record { source = source; target = target; perms = perms })
