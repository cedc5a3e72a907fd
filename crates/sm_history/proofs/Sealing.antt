-- The rows that a lawful history leaves are those that lawful changes left from the beginning: a sealed history may
-- be gone on from.
use Rattle.std.proofs.Common.{inl, inr, ◌⊎◌, ◌≡◌, ℕ, Bool, true, false, List, [], ◌∷◌, ◌++◌, refl, ap, sym, ◌∙◌, map}
use Rattle.std.proofs.Common.{Option, None, if◌then◌else◌, arith, subst}
use Rattle.std.specs.Prelude.{filter, reverse, filter_map}
use Rattle.std.specs.List.{list_any}
use Rattle.std.proofs.lemmas.Bool.{true≢false}
use Rattle.std.proofs.lemmas.List.{length-append}
use Rattle.sm_policy.specs.Policy.{Policy}
use Rattle.sm_history.specs.FailedChecks.{FailedCheck}
use Rattle.sm_history.specs.declared.by.By.{By}
use Rattle.sm_history.specs.declared.by.By.TheVariants.{Manager, Client, Admin}
use Rattle.sm_history.specs.declared.event.Event.{Event}
use Rattle.sm_history.specs.declared.entry.Entry.{Entry}
use Rattle.sm_history.specs.declared.outcome.Outcome.{Outcome}
use Rattle.sm_history.specs.declared.reply.Reply.TheVariants.{Done}
use Rattle.sm_history.specs.EarlyAnswers.{Refused}
use Rattle.sm_history.specs.declared.refusal.Refusal.TheVariants.{JournalFull}
use Rattle.sm_history.specs.Effects.{Effects}
use Rattle.sm_history.specs.Clients.{is_live, live_clients, policy_at, connected}
use Rattle.sm_history.specs.Checks.{Check, Wants, first_failing}
use Rattle.sm_history.specs.Openings.{Opening, TurnRow, blank_opening, is_same}
use Rattle.sm_history.specs.Histories.{History, whole, length_of, effects_of, client_of, turn_of}
use Rattle.sm_history.specs.Verdict.{answered, outcome_of, event_checks, has_place}
use Rattle.sm_history.specs.Lawful.{AreLawfulApart, AreLawful, IsLawful, IsLeft, HasSoundPolicy}
use Rattle.sm_history.specs.Segments.{is_admin, with_admin, admins_after, admins_of, client, actors_of, turn_row}
use Rattle.sm_history.specs.Segments.{rows_of, segment_of, judged, all_checks, verdict_apart}
use Rattle.sm_history.proofs.Owners.{AllHold, all_hold}
use Rattle.sm_history.proofs.PutRows.{AllOf, all_append, all_map}
use Rattle.sm_history.proofs.RowsSound.{rows_alike, map_alike, all_imply, all_filter}
use Rattle.sm_history.proofs.SegmentReads.{Speaks, follows, segments_read}

-- ---- the same rows

pub more_admins : (b : By) (bs : List By) → AllOf (λ v. is_admin v ≡ true) bs
    → AllOf (λ v. is_admin v ≡ true) (with_admin b bs)
more_admins Manager bs all = all
more_admins (Client c) bs all = all
more_admins (Admin a) bs all =
    elim (list_any (is_same (Admin a)) bs) as (λ t. AllOf (λ v. is_admin v ≡ true)
    (if t then bs else bs ++ Admin a ∷ [])) [
      | true ↦ all
      | false ↦
          all_append (λ v. is_admin v ≡ true) bs (Admin a ∷ []) all (refl, tt)
    ]

admins_only : (es : List Entry) → AllOf (λ b. is_admin b ≡ true) (admins_after [] es)
admins_only [] = tt
admins_only (e ∷ es) = more_admins e.by (admins_after [] es) (admins_only es)

keeps_all : {X : Type 0} (p : X → Bool) (xs : List X) → AllOf (λ x. p x ≡ true) xs → filter p xs ≡ xs
keeps_all p [] all = refl
keeps_all p (x ∷ xs) all = rw (all.0, keeps_all p xs all.1) refl

no_clients : (ks : List ℕ) (bs : List By) → filter is_admin (map client ks ++ bs) ≡ filter is_admin bs
no_clients [] bs = refl
no_clients (k ∷ ks) bs = no_clients ks bs

bys_back : (h : History) (bs : List By) → map (λ (r : TurnRow). r.by) (map (turn_row h) bs) ≡ bs
bys_back h [] = refl
bys_back h (b ∷ bs) = ap (λ l. b ∷ l) (bys_back h bs)

admins_back : (a : List Entry) → admins_of (segment_of a []) ≡ admins_of (whole a)
admins_back a =
    let h = whole a in
    ap (filter is_admin) (bys_back h (actors_of h)) ∙ no_clients (live_clients (effects_of h)) (admins_of h) ∙
    keeps_all is_admin (admins_of h) (admins_only a)

admins_alike : (a b : List Entry) → admins_of (segment_of a b) ≡ admins_of (whole (b ++ a))
admins_alike a [] = admins_back a
admins_alike a (e ∷ b) = ap (with_admin e.by) (admins_alike a b)

speaking : (d : Effects) (b : By) → is_admin b ≡ true → Speaks d b
speaking d Manager h = tt
speaking d (Client c) h = absurd (true≢false (sym h))
speaking d (Admin a) h = tt

all_speak : (es : List Entry) → AllOf (Speaks (effects_of (whole es))) (actors_of (whole es))
all_speak es =
    let d = effects_of (whole es) in (
      tt,
      all_append (Speaks d) (map client (live_clients d)) (admins_of (whole es))
          (all_map (Speaks d) client (live_clients d)
          (all_imply (λ c. is_live d c ≡ true) (λ c. Speaks d (client c)) (live_clients d) (λ c l. inl l)
          (all_filter (is_live d) (reverse (filter_map connected d)))))
          (all_imply (λ b. is_admin b ≡ true) (Speaks d) (admins_of (whole es)) (λ b h. speaking d b h)
          (admins_only es)),
    )

pub replayed : (a b : List Entry) → AreLawfulApart a → AreLawfulApart (b ++ a)
    → rows_of (segment_of a b) ≡ rows_of (whole (b ++ a))
replayed a b la l =
    let f = follows a b la l in
    let g = segment_of a b in
    let h = whole (b ++ a) in
    let actors : actors_of h ≡ actors_of g = rw (f.sim.agree.live_list, ← admins_alike a b) refl in
    let turns : map (turn_row h) (actors_of h) ≡ map (turn_row g) (actors_of g) =
    map_alike (Speaks (effects_of h)) (turn_row h) (turn_row g) (actors_of h)
    (λ by s. ap (λ (n : ℕ). let r : TurnRow = record { by = by; turns = n } in r) (f.turns by s))
    (all_speak (b ++ a))
    ∙ ap (map (turn_row g)) actors in
    let tables = rows_alike (effects_of h) (effects_of g) f.sim in
    let len : length_of h ≡ length_of g = let n = length-append b a in omega (arith, n) in
    rw (tables, len, turns) refl

-- ---- the verdict without the place

pub hold_none : (p : Policy) (xs : List Check) → AllHold p xs → first_failing p xs ≡ None
hold_none p [] h = refl
hold_none p (x ∷ xs) h = rw h.0 (hold_none p xs h.1)

hold_part : (p : Policy) (xs ys : List Check) → AllHold p (xs ++ ys) → AllHold p (xs ++ [])
hold_part p [] ys h = tt
hold_part p (x ∷ xs) ys h = (h.0, hold_part p xs ys h.1)

less_checked : (d : Effects) (have : ℕ) (by : By) (turn : ℕ) (event : Event) (rest : List Check) (outcome : Outcome)
    → judged d have by turn event rest ≡ Done outcome → judged d have by turn event [] ≡ Done outcome
less_checked d have by turn event rest outcome done =
    let p = policy_at d in
    let o = outcome_of d (client_of by) event in
    let xs = event_checks d (client_of by) event in
    let a = all_hold p (all_checks d have by turn event rest) o outcome done in
    let with_rest = hold_none p (all_checks d have by turn event rest) a in
    let without : first_failing p (all_checks d have by turn event []) ≡ None =
    hold_none p (all_checks d have by turn event []) (a.0, (a.1.0, (a.1.1.0, hold_part p xs rest a.1.1.1))) in
    ap (λ (x : Option FailedCheck). answered x o) without
    ∙ sym (ap (λ (x : Option FailedCheck). answered x o) with_rest) ∙ done

-- ---- a lawful history goes on from lawful changes

apart_more : (e : Entry) (es : List Entry) → AreLawfulApart es
    → verdict_apart (whole es) e.by e.turn e.event ≡ Done e.outcome → HasSoundPolicy e.event → AreLawfulApart (e ∷ es)
apart_more e [] l done ok = absurd l
apart_more e (f ∷ es) l done ok = (l, done, ok)

-- All the changes of which the history knows the last ones.
pub record Grown (o : Opening) (es : List Entry) : Type 0 where
  pub before : List Entry
  pub lawful : AreLawfulApart before
  pub opens : o ≡ rows_of (whole before)
  pub grown : AreLawfulApart (es ++ before)

-- A change meets its checks after an opening and changes.
abbrev IsMet : ℕ → List Entry → Entry → Opening → Type 0
IsMet number es e o =
    verdict_apart (record { number = number; opening = o; entries = es }) e.by e.turn e.event ≡ Done e.outcome

goes_on : (number : ℕ) (o : Opening) (e : Entry) (es : List Entry) → IsMet number es e o → HasSoundPolicy e.event
    → ((o ≡ blank_opening) × AreLawfulApart es) ⊎ Grown o es
    → ((o ≡ blank_opening) × AreLawfulApart (e ∷ es)) ⊎ Grown o (e ∷ es)
goes_on number o e es done ok (inl (is, l)) = inl (is, apart_more e es l (subst (IsMet number es e) is done) ok)
goes_on number o e es done ok (inr g) =
    let done' = subst (IsMet number es e) g.opens done in
    inr (record {
      before = g.before;
      lawful = g.lawful;
      opens = g.opens;
      grown = apart_more e (es ++ g.before) g.grown
          ((segments_read g.before es g.lawful g.grown).verdicts e.by e.turn e.event ∙ done') ok;
    })

pub grown_from : (places number : ℕ) (o : Opening) (es : List Entry) → AreLawful places number o es
    → ((o ≡ blank_opening) × AreLawfulApart es) ⊎ Grown o es
grown_from places number o [] ((a, l, is), fits) = inr (record { before = a; lawful = l; opens = is; grown = l })
grown_from places number o (e ∷ es) (inl (first, is, none, opens)) = inl (is, rw none opens)
grown_from places number o (e ∷ es) (inr (before, (done, ok))) =
    let h : History = record { number = number; opening = o; entries = es } in
    let apart : verdict_apart h e.by e.turn e.event ≡ Done e.outcome =
    less_checked (effects_of h) (turn_of h e.by) e.by e.turn e.event
    (Wants (has_place places h (client_of e.by) e.event) (Refused JournalFull) ∷ []) e.outcome done in
    goes_on number o e es apart ok (grown_from places number o es before)

left_by : (h : History) → ((h.opening ≡ blank_opening) × AreLawfulApart h.entries) ⊎ Grown h.opening h.entries
    → IsLeft (rows_of h)
left_by h (inl (is, l)) = (
  h.entries,
  l,
  ap (λ (o : Opening). rows_of (record { number = h.number; opening = o; entries = h.entries })) is,
)
left_by h (inr g) = (
  h.entries ++ g.before,
  g.grown,
  ap (λ (o : Opening). rows_of (record { number = h.number; opening = o; entries = h.entries })) g.opens ∙
      replayed g.before h.entries g.lawful g.grown,
)

-- What a lawful history leaves may be gone on from.
pub sealed_left : (places : ℕ) (h : History) → IsLawful places h → IsLeft (rows_of h)
sealed_left places h l = left_by h (grown_from places h.number h.opening h.entries l)
