-- What holds of every lawful history.
use Rattle.sm_history.specs.declared.by.By.{By}
use Rattle.std.proofs.Common.{◌≡◌, ℕ, ◌≤◌, true, false, List, [], ◌∷◌, refl, sym, subst, ◌∙◌, arith, if◌then◌else◌}
use Rattle.std.proofs.Common.{Bool}
use Rattle.std.specs.List.{list_any}
use Rattle.sm_history.specs.declared.entry.Entry.{Entry}
use Rattle.sm_history.specs.Clients.{next_client}
use Rattle.sm_history.specs.Openings.{is_same}
use Rattle.sm_history.specs.Histories.{History, whole, length_of, effects_of, client_of, turn_of, entered}
use Rattle.sm_history.specs.Segments.{client, actors_of, rows_of}
use Rattle.sm_history.specs.Lawful.{IsOpening, IsLawful, AreLawfulApart}
use Rattle.sm_history.proofs.LawfulLaws.{next_after, not_same, turn_more, turn_same}
use Rattle.std.proofs.lemmas.List.Sums.{count_by-le-length}
use Rattle.sm_history.proofs.SoundHistory.{actor_below}
use Rattle.sm_history.proofs.Induction.{Holds, holds_lawful, holds_apart, holds_sound}
use Rattle.sm_history.proofs.TurnRows.{turn_rows}
use Rattle.sm_history.specs.Sound.{Sound}

abbrev IsSmall : History → Type 0
IsSmall h = next_client (effects_of h) ≤ length_of h

small_opening : (e : Entry) → IsOpening e → IsSmall (whole (e ∷ []))
small_opening e (who, policy, is, may, ok) = subst (λ (x : Entry). IsSmall (whole (x ∷ []))) (sym is) (omega arith)

-- No more clients connected than changes were made.
pub next_small : (places : ℕ) (h : History) → IsLawful places h → next_client (effects_of h) ≤ length_of h
next_small places h l =
    holds_lawful IsSmall (record {
      opens = small_opening;
      goes_on = λ e g m i. let n = (next_after (effects_of g) (client_of e.by) e.event).1 in omega (arith, i, n);
      resumes = λ number a la i. omega (arith, i);
    }) places h l

-- A client that is still to connect has made no change.
pub record HasNoTurns (h : History) : Type 0 where
  pub sound : Sound (effects_of h)
  pub none : (k : ℕ) → next_client (effects_of h) ≤ k → turn_of h (client k) ≡ 0

none_opening : (e : Entry) (k : ℕ) → IsOpening e → turn_of (whole (e ∷ [])) (client k) ≡ 0
none_opening e k (who, policy, is, may, ok) = rw is (omega arith)

none_rows : (number : ℕ) (a : List Entry) (k n : ℕ) → n ≡ 0 → turn_of (whole a) (client k) ≡ n →
    turn_of (record { number = number; opening = rows_of (whole a); entries = [] }) (client k) ≡ 0
none_rows number a k n z is =
    let h = whole a in
    let r = turn_rows h (client k) (actors_of h) in
    let both : (if list_any (is_same (client k)) (actors_of h) then turn_of h (client k) else 0) ≡ 0 =
    elim (list_any (is_same (client k)) (actors_of h)) as (λ b. (if b then turn_of h (client k) else 0) ≡ 0)
    [ true ↦ is ∙ z | false ↦ refl ] in
    omega (arith, r, both)

holds_none : Holds HasNoTurns
holds_none = record {
  opens = λ e o. record { sound = holds_sound.opens e o; none = λ k le. none_opening e k o };
  goes_on = λ e h m i. record {
    sound = holds_sound.goes_on e h m i.sound;
    none = λ k le.
        let n = (next_after (effects_of h) (client_of e.by) e.event).0 in
        let below = actor_below (effects_of h) e.by i.sound.fresh m.there in
        turn_more e h (client k) (not_same k e.by (omega (arith, n, below, le))) ∙ i.none k (omega (arith, n, le));
  };
  resumes = λ number a l i. record {
    sound = holds_sound.resumes number a l i.sound;
    none =
        λ k le. none_rows number a k (turn_of (whole a) (client k)) (i.none k le) refl;
  };
}

pub no_turns : (places : ℕ) (h : History) → IsLawful places h → (k : ℕ) → next_client (effects_of h) ≤ k
    → turn_of h (client k) ≡ 0
no_turns places h l = (holds_lawful HasNoTurns holds_none places h l).none

pub no_turns_apart : (a : List Entry) → AreLawfulApart a → (k : ℕ) → next_client (effects_of (whole a)) ≤ k
    → turn_of (whole a) (client k) ≡ 0
no_turns_apart a l = (holds_apart HasNoTurns holds_none a l).none

-- No actor made more changes than there are.
abbrev HasFewTurns : History → Type 0
HasFewTurns h = (by : By) → turn_of h by ≤ length_of h

few_opening : (e : Entry) → IsOpening e → HasFewTurns (whole (e ∷ []))
few_opening e o by = let b = count_by-le-length (λ (x : Entry). is_same by x.by) (e ∷ []) in omega (arith, b)

few_more : (e : Entry) (h : History) → HasFewTurns h → HasFewTurns (entered e h)
few_more e h i by =
    let before = i by in
    elim (is_same by e.by) as (λ b. is_same by e.by ≡ b → turn_of (entered e h) by ≤ length_of (entered e h)) [
      | true ↦ λ s. let t = turn_same e h by s in omega (arith, before, t)
      | false ↦ λ s. let t = turn_more e h by s in omega (arith, before, t)
    ] refl

few_case : (b : Bool) (n t m : ℕ) → t ≡ (if b then n else 0) → n ≤ m → t ≤ m
few_case true n t m e le = omega (arith, e, le)
few_case false n t m e le = omega (arith, e)

few_rows : (number : ℕ) (a : List Entry) → HasFewTurns (whole a)
    → HasFewTurns (record { number = number; opening = rows_of (whole a); entries = [] })
few_rows number a i by =
    let h = whole a in
    let le = i by in
    let l = few_case (list_any (is_same by) (actors_of h)) (turn_of h by) _ (length_of h)
    (turn_rows h by (actors_of h)) le in
    omega (arith, l)

pub turns_small : (places : ℕ) (h : History) → IsLawful places h → (by : By) → turn_of h by ≤ length_of h
turns_small places h l = holds_lawful HasFewTurns
    (record {
      opens = few_opening;
      goes_on = λ e g m i. few_more e g i;
      resumes = λ number a la i. few_rows number a i;
    }) places h l
