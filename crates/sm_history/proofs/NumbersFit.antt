-- Lengths and counts of grants of lawful histories stay below the greatest number.
use Rattle.std.proofs.Common.{inl, inr, ◌⊎◌, ◌≡◌, ℕ, ◌<◌, Bool, true, false, ◌||◌, ◌==◌, List, [], ◌∷◌, refl, ap, sym}
use Rattle.std.proofs.Common.{◌∙◌, subst, length, if◌then◌else◌, arith}
use Rattle.std.specs.Prelude.{nat_lt}
use Rattle.std.specs.List.{list_any, list_all}
use Rattle.std.proofs.lemmas.Bool.Decides.{nat_tests}
use Rattle.std.proofs.lemmas.Bool.{true≢false, and_parts}
use Rattle.sm_values.specs.declared.number.Node.{Node}
use Rattle.sm_history.specs.declared.by.By.{By}
use Rattle.sm_history.specs.declared.event.Event.{Event}
use Rattle.sm_history.specs.declared.event.Event.TheVariants.{Die}
use Rattle.sm_history.specs.declared.entry.Entry.{Entry}
use Rattle.sm_history.specs.declared.limits.TheConstants.{GREATEST}
use Rattle.sm_history.specs.declared.outcome.Outcome.{Outcome}
use Rattle.sm_history.specs.declared.reply.Reply.TheVariants.{Done}
use Rattle.sm_history.specs.Effects.{Effects, Dies, same_node}
use Rattle.sm_history.specs.Clients.{is_live, live_clients}
use Rattle.sm_history.specs.Holdings.{refs_at, is_held, held_nodes, counts_fit}
use Rattle.sm_history.specs.Rows.{rows_at, resumed}
use Rattle.sm_history.specs.Openings.{Opening}
use Rattle.sm_history.specs.Histories.{History, whole, entered, effects_of, client_of}
use Rattle.sm_history.specs.Verdict.{verdict, is_die}
use Rattle.sm_history.specs.Segments.{sealed}
use Rattle.sm_history.specs.Lawful.{IsOpening, AreLawful, IsLawful, FitsNumbers, FitsPlaces}
use Rattle.sm_history.specs.Sound.{Sound}
use Rattle.sm_history.proofs.Balanced.{number_same, node_same}
use Rattle.sm_history.proofs.HeldAlike.{held_among}
use Rattle.sm_history.proofs.AfterHoldings.{refs_dies}
use Rattle.sm_history.proofs.Living.{any_live}
use Rattle.sm_history.proofs.RowsBack.{list_back, refs_back, held_live}
use Rattle.sm_history.proofs.Induction.{sound_lawful}
use Rattle.sm_history.proofs.Sealing.{sealed_left}
use Rattle.sm_history.proofs.Fitting.{room_done, lives_after}
use Rattle.sm_history.proofs.Fits.{fewer_live}

-- ---- counts that fit, one by one

-- What a test of all elements says of one that is there.
all_at : {X : Type 0} (p same : X → Bool) (Q : Type 0) (xs : List X) → ((x : X) → same x ≡ true → p x ≡ true → Q)
    → list_all p xs ≡ true → list_any same xs ≡ true → Q
all_at p same Q [] each all any = absurd (true≢false (sym any))
all_at p same Q (x ∷ xs) each all any =
    let parts = and_parts (p x) (list_all p xs) all in
    elim (same x) as (λ b. same x ≡ b → (b || list_any same xs) ≡ true → Q) [
      | true ↦ λ e h. each x e parts.0
      | false ↦ λ e h. all_at p same Q xs each parts.1 h
    ] refl any

all_true : {X : Type 0} (p : X → Bool) (xs : List X) → ((x : X) → p x ≡ true) → list_all p xs ≡ true
all_true p [] each = refl
all_true p (x ∷ xs) each = rw (each x) (all_true p xs each)

pub below : (a b : ℕ) → nat_lt a b ≡ true → a < b
below a b h = grind (arith, nat_tests)

pub is_below : (a b : ℕ) → a < b → nat_lt a b ≡ true
is_below a b h = grind (arith, nat_tests)

none : (v g : ℕ) → nat_lt 0 v ≡ false → 0 < g → v < g
none v g h some = grind (arith, nat_tests)

pub counts_each : (d : Effects) → counts_fit d ≡ true → (c : ℕ) (n : Node) → refs_at d c n < GREATEST
counts_each d fit c n =
    elim (is_held d c n) as (λ b. is_held d c n ≡ b → refs_at d c n < GREATEST) [
      | false ↦ λ e. none (refs_at d c n) GREATEST e (below 0 GREATEST refl)
      | true ↦ λ e.
          all_at (λ k. list_all (λ m. nat_lt (refs_at d k m) GREATEST) (held_nodes d k)) (λ k. k == c)
          (refs_at d c n < GREATEST) (live_clients d)
          (λ k same all.
          all_at (λ m. nat_lt (refs_at d c m) GREATEST) (same_node n) (refs_at d c n < GREATEST) (held_nodes d c)
          (λ m alike fits. below (refs_at d c n) GREATEST
          (rw (node_same n m alike) fits))
          (rw (number_same k c same) at all)
          (held_among d c n e))
          fit (any_live d c ∙ held_live (is_live d c) _ e)
    ] refl

pub counts_all : (d : Effects) → ((c : ℕ) (n : Node) → refs_at d c n < GREATEST) → counts_fit d ≡ true
counts_all d each =
    all_true (λ c. list_all (λ n. nat_lt (refs_at d c n) GREATEST) (held_nodes d c)) (live_clients d)
    (λ c. all_true (λ n. nat_lt (refs_at d c n) GREATEST) (held_nodes d c)
    (λ n. is_below (refs_at d c n) GREATEST (each c n)))

-- ---- after changes

less_case : (b : Bool) (v w g : ℕ) → w ≡ (if b then 0 else v) → v < g → w < g
less_case true v w g e lt = omega (arith, e, lt)
less_case false v w g e lt = omega (arith, e, lt)

-- A death leaves counts that fit.
pub counts_die : (d : Effects) (c : ℕ) → counts_fit d ≡ true → counts_fit (Dies c ∷ d) ≡ true
counts_die d c fit =
    counts_all (Dies c ∷ d) (λ k n. less_case (c == k) (refs_at d k n) (refs_at (Dies c ∷ d) k n) GREATEST
    (refs_dies d c k n) (counts_each d fit k n))

numbers_die : (places : ℕ) (h : History) (by : By) (turn : ℕ) (outcome : Outcome) → FitsNumbers h
    → verdict places h by turn Die ≡ Done outcome
    → FitsNumbers (entered (record { by = by; turn = turn; event = Die; outcome = outcome }) h)
numbers_die places h by turn outcome fits done =
    let one = fewer_live places h by turn outcome done in
    record {
      lengths = let lt = fits.lengths in omega (arith, one, lt);
      counts = counts_die (effects_of h) (client_of by) fits.counts;
    }

-- A death, or another event.
death_or : (event : Event) → (event ≡ Die) ⊎ (is_die event ≡ false)
death_or Die = inl refl
death_or _ = inr refl

numbers_case : (places : ℕ) (h : History) (e : Entry) → Sound (effects_of h) → FitsNumbers h
    → verdict places h e.by e.turn e.event ≡ Done e.outcome → (e.event ≡ Die) ⊎ (is_die e.event ≡ false)
    → FitsNumbers (entered e h)
numbers_case places h e s fits done (inl is) =
    subst (λ (v : Event). verdict places h e.by e.turn v ≡ Done e.outcome
    → FitsNumbers (entered (record { by = e.by; turn = e.turn; event = v; outcome = e.outcome }) h)) (sym is)
    (numbers_die places h e.by e.turn e.outcome fits) done
numbers_case places h e s fits done (inr alive) =
    let room = room_done places h e alive done in
    let lives = lives_after (effects_of h) (client_of e.by) e.event s alive in
    record {
      lengths = let lt = room.lengths in omega (arith, lives, lt);
      counts = room.counts;
    }

opening_fits : (e : Entry) → IsOpening e → FitsNumbers (whole (e ∷ []))
opening_fits e (who, policy, is, may, ok) = rw is (record { lengths = below 1 GREATEST refl; counts = refl })

fits_after : (places number : ℕ) (o : Opening) (es : List Entry) → AreLawful places number o es
    → FitsNumbers (record { number = number; opening = o; entries = es })
fits_after places number o [] (left, fits) = fits
fits_after places number o (e ∷ es) (inl (first, is, none, opens)) = rw (first, is, none) (opening_fits e opens)
fits_after places number o (e ∷ es) (inr (before, (done, ok))) =
    let h : History = record { number = number; opening = o; entries = es } in
    numbers_case places h e (sound_lawful places h before) (fits_after places number o es before) done
    (death_or e.event)

-- Lengths and counts of a lawful history are below the greatest number.
pub numbers_fit : (places : ℕ) (h : History) → IsLawful places h → FitsNumbers h
numbers_fit places h l = fits_after places h.number h.opening h.entries l

-- ---- seals

sealed_numbers : (h : History) → Sound (effects_of h) → FitsNumbers h → FitsNumbers (sealed h)
sealed_numbers h s fits =
    let d = effects_of h in
    let same = ap (length {A = ℕ}) (list_back d) in
    record {
      lengths = let lt = fits.lengths in omega (arith, same, lt);
      counts = counts_all (resumed (rows_at d)) (λ c n. rw (← refs_back d c n s)
          (counts_each d fits.counts c n));
    }

-- A lawful history may be sealed.
pub sealed_lawful : (places : ℕ) (h : History) → IsLawful places h → IsLawful places (sealed h)
sealed_lawful places h l = (sealed_left places h l, sealed_numbers h (sound_lawful places h l) (numbers_fit places h l))

pub sealed_fits : (places : ℕ) (h : History) → FitsPlaces places h → FitsPlaces places (sealed h)
sealed_fits places h fits =
    let same = ap (length {A = ℕ}) (list_back (effects_of h)) in
    omega (arith, same, fits)
