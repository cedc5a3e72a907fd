-- Classes and permissions, and their words.
use Rattle.std.specs.Prelude.{ℕ, Bool, List, Option, Some, None, ◌==◌, if◌then◌else◌, codes, is_some}
use Rattle.std.specs.Str.{bytes_eq}
use Rattle.sm_values.specs.declared.class.Class.{Class, TheVariants.ServiceManager, TheVariants.Binder}
use Rattle.sm_values.specs.declared.perms.Perms.{Perms}

-- This is the word of a class.
abbrev pub class_word : Class → List ℕ
class_word ServiceManager = codes "service_manager"
class_word Binder = codes "binder"

-- This is the class of a word.
abbrev pub class_read : List ℕ → Option Class
class_read word =
    if bytes_eq word (codes "service_manager") then Some ServiceManager
    else if bytes_eq word (codes "binder") then Some Binder
    else None

-- This is the permission with these bits.
abbrev pub bit : ℕ → Perms
bit b = record { 0 = b }

-- This is the permission of a class that a word names.
abbrev pub perm_read : Class → List ℕ → Option Perms
perm_read ServiceManager word =
    if bytes_eq word (codes "add") then Some (bit 1)
    else if bytes_eq word (codes "find") then Some (bit 2)
    else if bytes_eq word (codes "list") then Some (bit 4)
    else None
perm_read Binder word =
    if bytes_eq word (codes "impersonate") then Some (bit 8)
    else if bytes_eq word (codes "call") then Some (bit 16)
    else if bytes_eq word (codes "set_context_mgr") then Some (bit 32)
    else if bytes_eq word (codes "transfer") then Some (bit 64)
    else None

-- A word is one of the class's permissions.
abbrev pub is_permission : Class → List ℕ → Bool
is_permission class word = is_some (perm_read class word)

-- This is the word of a single permission of `service_manager`.
abbrev pub service_manager_word : ℕ → Option (List ℕ)
service_manager_word b =
    if b == 1 then Some (codes "add")
    else if b == 2 then Some (codes "find") else if b == 4 then Some (codes "list") else None

-- This is the word of a single permission of `binder`.
abbrev pub binder_word : ℕ → Option (List ℕ)
binder_word b =
    if b == 8 then Some (codes "impersonate")
    else if b == 16 then Some (codes "call")
    else if b == 32 then Some (codes "set_context_mgr")
    else if b == 64 then Some (codes "transfer")
    else None

-- This is the word of a single permission of the class. A set, or a permission of the other class, has none.
abbrev pub perm_of : Class → Perms → Option (List ℕ)
perm_of ServiceManager p = service_manager_word p.0
perm_of Binder p = binder_word p.0

-- This is the word of a single permission of either class.
abbrev pub perm_word : Perms → Option (List ℕ)
perm_word p =
    if p.0 == 1 then Some (codes "add")
    else if p.0 == 2 then Some (codes "find")
    else if p.0 == 4 then Some (codes "list")
    else binder_word p.0
