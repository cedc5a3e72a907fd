-- The words of a question.
use Rattle.std.specs.Prelude.{ℕ, List, ◌++◌, not, if◌then◌else◌, Option, Some, None, Result, Ok, Err, codes}
use Rattle.sm_values.specs.declared.class.Class.{Class}
use Rattle.sm_values.specs.declared.perms.Perms.{Perms}
use Rattle.sm_values.specs.Permissions.{class_read, perm_read}
use Rattle.sm_types.specs.Denoting.{declares}
use Rattle.sm_policy.specs.Policy.{Policy}
use Rattle.sm_questions.specs.declared.unknown.Unknown.{Unknown}
use Rattle.sm_questions.specs.declared.unknown.Unknown.TheVariants as unknown

-- This is a class with its permission, if the word named one.
abbrev pub perm_or : Class → List ℕ → Option Perms → Result (Class × Perms) Unknown
perm_or class word None = Err (unknown.Permission word)
perm_or class word (Some perm) = Ok (class, perm)

-- This is a class with the permission of it that a word names.
abbrev pub perm_in : Class → List ℕ → Result (Class × Perms) Unknown
perm_in class word = perm_or class word (perm_read class word)

-- This is the class with its permission, if the word named a class.
abbrev pub class_or : List ℕ → List ℕ → Option Class → Result (Class × Perms) Unknown
class_or class perm None = Err (unknown.Class class)
class_or class perm (Some c) = perm_in c perm

-- These are the class and the permission of an access that is given by four words, or the first word that names
-- nothing.
abbrev pub access_of : Policy → List ℕ → List ℕ → List ℕ → List ℕ → Result (Class × Perms) Unknown
access_of policy source target class perm =
    if not (declares policy.statements source) then Err (unknown.Type source)
    else if not (declares policy.statements target) then Err (unknown.Type target)
    else class_or class perm (class_read class)

-- An unknown word is reported so.
abbrev pub unknown_words : Unknown → List ℕ
unknown_words (unknown.Type word) = codes "unknown type " ++ word
unknown_words (unknown.Class word) = codes "unknown class " ++ word
unknown_words (unknown.Permission word) = codes "unknown permission " ++ word
unknown_words (unknown.Kind word) = codes "unknown kind " ++ word
