-- The rows of actors that made a change since a table was copied.
use Rattle.std.proofs.Common.{◌≡◌, ℕ, Bool, true, false, List, [], ◌∷◌, Option, Some, refl, ap, sym, subst, ◌∙◌}
use Rattle.std.proofs.Common.{unwrap_or, if◌then◌else◌}
use Rattle.std.specs.Arc.{arc_value}
use Rattle.std.specs.Prelude.{cond, find, not, option_map}
use Rattle.sm_history.specs.declared.by.By.{By}
use Rattle.sm_history.specs.declared.turn.TurnRow.{TurnRow}
use Rattle.sm_history.specs.Openings.{is_same}
use Rattle.sm_history.proofs.TurnRows.{same_actor}
use Rattle.sm_core.specs.declared.turn_counts.TurnCounts.{TurnCounts}
use Rattle.sm_core.specs.declared.turns.Turns.{Turns}
use Rattle.sm_core.specs.Counting.{change_count}
use Rattle.sm_core.specs.Viewing.{counted_by, counted_in, counted_with, rows_of_others}

-- Among the rows of others than `by`, another actor's first row is the one that it has among all.
found_among_others : (b by : By) (rows : List TurnRow) → is_same b by ≡ false
    → find (λ r. is_same b r.by) (rows_of_others by rows) ≡ find (λ r. is_same b r.by) rows
found_among_others b by [] other = refl
found_among_others b by (r ∷ rs) other =
    let p : TurnRow → Bool = λ r. is_same b r.by in
    let rest = rows_of_others by rs in
    elim (is_same by r.by) as (λ t. is_same by r.by ≡ t
    → find p (if not t then r ∷ rest else rest) ≡ find p (r ∷ rs)) [
      | true ↦ λ e. found_among_others b by rs other
          ∙ ap (λ (t : Bool). cond t (Some r) (find p rs))
          (sym (subst (λ (a : By). is_same b a ≡ false) (same_actor by r.by e) other))
      | false ↦ λ e. ap (cond (is_same b r.by) (Some r)) (found_among_others b by rs other)
    ] refl

-- The changes of an actor by the first of its rows, where this is one's first row or there is none.
abbrev first_turns : Turns → List TurnRow → By → TurnRow → Bool → ℕ
first_turns base rows b row t =
    unwrap_or (option_map (λ r. r.turns) (cond t (Some row) (find (λ r. is_same b r.by) rows))) (change_count base b)

-- Without an actor's later rows, all have the same changes.
pub counted_once : (base : Turns) (row : TurnRow) (rows : List TurnRow) (b : By)
    → counted_in base (row ∷ rows_of_others row.by rows) b ≡ counted_in base (row ∷ rows) b
counted_once base row rows b =
    elim (is_same b row.by) as (λ t. is_same b row.by ≡ t
    → first_turns base (rows_of_others row.by rows) b row t ≡ first_turns base rows b row t) [
      | true ↦ λ e. refl
      | false ↦ λ e. ap (λ (o : Option TurnRow). unwrap_or (option_map (λ r. r.turns) o) (change_count base b))
          (found_among_others b row.by rows e)
    ] refl

-- The changes of all actors are as many as these, where those of one are in the row that comes first.
pub counted_first : (counts : TurnCounts) (row : TurnRow) (b : By) (changes : By → ℕ)
    → (is_same b row.by ≡ false → counted_by counts b ≡ changes b) → row.turns ≡ changes row.by
    → counted_with row counts b ≡ changes b
counted_first counts row b changes others one =
    elim (is_same b row.by) as (λ t. is_same b row.by ≡ t
    → first_turns (arc_value counts.base) counts.since.items b row t ≡ changes b) [
      | true ↦ λ e. one ∙ ap changes (sym (same_actor b row.by e))
      | false ↦ others
    ] refl

-- Where the first row is one actor's, the others have the same changes without it.
pub counted_others : (counts : TurnCounts) (row : TurnRow) (by b : By) → is_same by row.by ≡ true
    → is_same b by ≡ false → counted_with row counts b ≡ counted_by counts b
counted_others counts row by b same other =
    ap (first_turns (arc_value counts.base) counts.since.items b row)
    (subst (λ (a : By). is_same b a ≡ false) (same_actor by row.by same) other)
