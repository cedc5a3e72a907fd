-- The decisions of the tables are those of the policy.
use Rattle.std.proofs.Common.{◌≡◌, ◌∙◌, ℕ, ◌<◌, Bool, true, false, not, ◌&&◌, ◌||◌, cond, List, length, None, is_some, refl}
use Rattle.std.proofs.Common.{sym, arith, suc, zero}
use Rattle.sm_bits.specs.Bits.{has, has_bit, row}
use Rattle.sm_values.specs.Permissions.{perm_of}
use Rattle.sm_values.specs.declared.class.Class.{Class}
use Rattle.sm_values.specs.declared.perms.Perms.{Perms}
use Rattle.sm_ruletext.specs.declared.statement.RuleKind.TheVariants.{Allow, Dontaudit}
use Rattle.sm_types.specs.Names.{Name, at}
use Rattle.sm_types.specs.Denoting.{Policy, declares}
use Rattle.sm_rules.specs.Access.{is_permissive, allowed, audits}
use Rattle.sm_rules.specs.Keeping.{class_at, perm_at}
use Rattle.sm_rules.proofs.Consistent.{no_single}
use Rattle.sm_matrices.specs.declared.decision.Decision.{Decision}
use Rattle.sm_matrices.specs.Matrices.{matrix}
use Rattle.sm_matrices.specs.Tables.{Tables, TablesOf, decision}

-- Permission b of the class.
abbrev pub IsNumber : ℕ → Class → Perms → Type 0
IsNumber b class perm = (b < 7) × (class_at b ≡ class) × (perm_at b ≡ perm)

passes : (w p z : Bool)
    → (cond {A = Decision} w (record { allowed = true; audited = false })
    (record { allowed = p; audited = not z })).allowed
    ≡ (w || (p && (true && true)))
passes true p z = refl
passes false true z = refl
passes false false z = refl

records : (w p z : Bool)
    → (cond {A = Decision} w (record { allowed = true; audited = false })
    (record { allowed = p; audited = not z })).audited
    ≡ (not w && not z)
records true p z = refl
records false p z = refl

pub decided_allowed : (policy : Policy) (names : List Name) (tables : Tables) (b s t : ℕ) (class : Class) (perm : Perms)
    → TablesOf policy names tables → s < length names → t < length names → IsNumber b class perm
    → is_some (perm_of class perm) ≡ true
    → (decision tables b s t).allowed ≡ allowed policy (at names s) (at names t) class perm
decided_allowed policy names tables b s t class perm of hs ht number single =
    rw (
      single,
      of.declared t ht,
      ← number.1,
      ← number.2,
      ← of.written.says b s t number.0 hs ht,
      ← of.permissive.says s hs,
    ) (passes (has (row (matrix tables.written b) s) t) (has tables.permissive s)
    (has (row (matrix tables.silenced b) s) t))

pub decided_audited : (policy : Policy) (names : List Name) (tables : Tables) (b s t : ℕ) (class : Class) (perm : Perms)
    → TablesOf policy names tables → s < length names → t < length names → IsNumber b class perm
    → (decision tables b s t).audited ≡ audits policy (at names s) (at names t) class perm
decided_audited policy names tables b s t class perm of hs ht number =
    rw (
      ← number.1,
      ← number.2,
      ← of.written.says b s t number.0 hs ht,
      ← of.silenced.says b s t number.0 hs ht,
    ) (records (has (row (matrix tables.written b) s) t) (has tables.permissive s)
    (has (row (matrix tables.silenced b) s) t))

-- What is no single permission of the class passes nowhere, and is audited.

nowhere : (p d : Bool) → (false || (p && (d && false))) ≡ false
nowhere true true = refl
nowhere true false = refl
nowhere false d = refl

pub other_allowed : (policy : Policy) (s t : Name) (class : Class) (perm : Perms) → perm_of class perm ≡ None
    → allowed policy s t class perm ≡ false
other_allowed policy s t class perm none =
    rw (no_single Allow policy s t class perm none, none) (nowhere (is_permissive policy s) (declares policy t))

pub other_audited : (policy : Policy) (s t : Name) (class : Class) (perm : Perms) → perm_of class perm ≡ None
    → audits policy s t class perm ≡ true
other_audited policy s t class perm none =
    rw (no_single Allow policy s t class perm none, no_single Dontaudit policy s t class perm none) refl

-- ---- the permissions of a pair as a byte

all_bits : (b : ℕ) → b < 7 → has_bit 127 b ≡ true
unfolding has_bit
all_bits zero lt = refl
all_bits (suc zero) lt = refl
all_bits (suc (suc zero)) lt = refl
all_bits (suc (suc (suc zero))) lt = refl
all_bits (suc (suc (suc (suc zero)))) lt = refl
all_bits (suc (suc (suc (suc (suc zero))))) lt = refl
all_bits (suc (suc (suc (suc (suc (suc zero)))))) lt = refl
all_bits (suc (suc (suc (suc (suc (suc (suc b))))))) lt = absurd (omega arith)

pub single : (b : ℕ) → b < 7 → is_some (perm_of (class_at b) (perm_at b)) ≡ true
single b lt = grind arith

anyway : (w p z : Bool) → p ≡ true
    → (cond {A = Decision} w (record { allowed = true; audited = false })
    (record { allowed = p; audited = not z })).allowed
    ≡ true
anyway true p z e = refl
anyway false p z e = e

-- A permissive source has each permission.
pub permissive_granted : (policy : Policy) (names : List Name) (tables : Tables) (b s t : ℕ)
    → TablesOf policy names tables → s < length names → t < length names → b < 7 → has tables.permissive s ≡ true
    → has_bit 127 b ≡ allowed policy (at names s) (at names t) (class_at b) (perm_at b)
permissive_granted policy names tables b s t of hs ht lt p =
    all_bits b lt
    ∙ (sym (anyway (has (row (matrix tables.written b) s) t) (has tables.permissive s)
    (has (row (matrix tables.silenced b) s) t) p)
    ∙ decided_allowed policy names tables b s t (class_at b) (perm_at b) of hs ht (lt, refl, refl) (single b lt))
