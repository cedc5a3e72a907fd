-- What the tables of two policies say of two sources, as what the policies grant them.
use Rattle.std.proofs.Common.{inl, inr, ◌⊎◌, ◌≡◌, ◌∙◌, ℕ, ◌<◌, ◌≤◌, length, refl, sym, arith}
use Rattle.sm_bits.specs.Bits.{has}
use Rattle.sm_rules.specs.Keeping.{class_at, perm_at}
use Rattle.sm_types.specs.Names.{at}
use Rattle.sm_types.specs.Denoting.{types}
use Rattle.sm_matrices.specs.Tables.{Tables, TablesOf, decision}
use Rattle.sm_matrices.proofs.Deciding.{decided_allowed, single}
use Rattle.sm_policy.specs.declared.prepared.Parts.{Parts}
use Rattle.sm_policy.specs.Parts.{ArePartsOf}
use Rattle.sm_policy.specs.Policy.{Policy, allowed, is_permissive}
use Rattle.sm_policy.specs.GrantedRow.{granted}

-- A policy with the tables of its rules.
pub record Tabled (policy : Policy) (tables : Tables) (s end : ℕ) : Type 0 where
  pub of : TablesOf policy.statements (types policy.statements) tables
  pub source : s < length (types policy.statements)
  pub within : end ≤ length (types policy.statements)

pub tabled : {policy : Policy} {parts : Parts} (s end : ℕ) → ArePartsOf policy parts
    → s < length (types policy.statements) → end ≤ length (types policy.statements)
    → Tabled policy parts.vectors s end
tabled s end is source within =
    record { of = rw is.typed.types at is.tabled; source = source; within = within }

granted_is : (policy : Policy) (tables : Tables) (s end t b : ℕ) → Tabled policy tables s end → t < end → b < 7
    → granted policy s t b ≡ (decision tables b s t).allowed
unfolding allowed
granted_is policy tables s end t b is ht lt =
    sym (decided_allowed policy.statements (types policy.statements) tables b s t (class_at b) (perm_at b) is.of
    is.source (omega (arith, ht, is.within)) (lt, refl, refl) (single b lt))

pub granted_alike : (one other : Policy) {mine others : Tables} (s o end t b : ℕ) → Tabled one mine s end
    → Tabled other others o end → t < end → b < 7
    → (decision mine b s t).allowed ≡ (decision others b o t).allowed → granted one s t b ≡ granted other o t b
granted_alike one other {mine} {others} s o end t b is theirs ht lt same =
    granted_is one mine s end t b is ht lt ∙ (same ∙ sym (granted_is other others o end t b theirs ht lt))

-- The sources differ in one type, or only one of them is permissive.
abbrev pub Differ : Policy → Policy → ℕ → ℕ → ℕ → Type 0
Differ one other s o end =
    (is_permissive one (at (types one.statements) s) ≡ is_permissive other (at (types other.statements) o) → ⊥)
    ⊎ ((t : ℕ) × (b : ℕ) × (t < end) × (b < 7) × (granted one s t b ≡ granted other o t b → ⊥))

pub granted_differ : (one other : Policy) {mine others : Tables} (s o end : ℕ) → Tabled one mine s end
    → Tabled other others o end
    → (has mine.permissive s ≡ has others.permissive o → ⊥)
    ⊎ ((t : ℕ) × (b : ℕ) × (t < end) × (b < 7)
    × ((decision mine b s t).allowed ≡ (decision others b o t).allowed → ⊥))
    → Differ one other s o end
granted_differ one other {mine} {others} s o end is theirs (inl other_kind) = inl (λ e. other_kind
    (is.of.permissive.says s is.source ∙ (e ∙ sym (theirs.of.permissive.says o theirs.source))))
granted_differ one other {mine} {others} s o end is theirs (inr p) = inr (
  p.0,
  p.1,
  p.2,
  p.3,
  λ e. p.4
      (sym (granted_is one mine s end p.0 p.1 is p.2 p.3) ∙ (e ∙ granted_is other others o end p.0 p.1 theirs p.2 p.3)),
)
