-- What two rules have in common, by number.
use Rattle.std.specs.Prelude.{◌≡◌, ℕ, Bool, true, false, ◌&&◌, ◌||◌, ◌<◌, List, Option, Some, None}
use Rattle.sm_bits.specs.Bits.{has}
use Rattle.sm_rules.specs.Keeping.{joins}
use Rattle.sm_rules.specs.declared.kept.Kept.{Kept}
use Rattle.sm_neverallow.specs.Violating.{both_join}

-- A number is in both sets.
abbrev pub in_both : List ℕ → List ℕ → ℕ → Bool
in_both first second i = has first i && has second i

-- Two rules both have a source, and join it to itself.
abbrev pub join_own : ℕ → Kept → Kept → Bool
join_own s allow never = both_join s s allow never

-- It is the least number in both sets, if there is one.
abbrev pub IsFirstCommon : List ℕ → List ℕ → Option ℕ → Type 0
IsFirstCommon first second None = (j : ℕ) → in_both first second j ≡ false
IsFirstCommon first second (Some i) = (in_both first second i ≡ true)
    × ((j : ℕ) → j < i → in_both first second j ≡ false)

-- It is the least target to which both rules join a source, if there is one.
abbrev pub IsFirstTarget : Kept → Kept → ℕ → Option ℕ → Type 0
IsFirstTarget allow never s None = (t : ℕ) → both_join s t allow never ≡ false
IsFirstTarget allow never s (Some t) = (both_join s t allow never ≡ true)
    × ((u : ℕ) → u < t → both_join s u allow never ≡ false)
