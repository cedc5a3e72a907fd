-- What of a later history is never less.
use Rattle.std.proofs.Common.{inl, inr, ◌⊎◌, ◌≡◌, ℕ, ◌≤◌, true, false, List, [], ◌∷◌, refl, sym}
use Rattle.std.proofs.Common.{subst, ◌∙◌, map, if◌then◌else◌, arith}
use Rattle.std.specs.Prelude.{filter}
use Rattle.std.specs.List.{list_any}
use Rattle.std.proofs.lemmas.Bool.{true≢false, or_parts}
use Rattle.std.proofs.lemmas.List.Folds.{list_any-append}
use Rattle.sm_history.specs.declared.by.By.{By}
use Rattle.sm_history.specs.declared.by.By.TheVariants.{Manager, Client, Admin}
use Rattle.sm_history.specs.declared.entry.Entry.{Entry}
use Rattle.sm_history.specs.Clients.{is_live, live_clients, next_client, version_at}
use Rattle.sm_history.specs.Openings.{Opening, TurnRow, is_same, turns_in}
use Rattle.sm_history.specs.Histories.{History, entered, effects_of, length_of, turn_of, client_of}
use Rattle.sm_history.specs.Verdict.{is_there}
use Rattle.sm_history.specs.Segments.{is_admin, admins_after, admins_of, client, actors_of, sealed}
use Rattle.sm_history.specs.Lawful.{IsLawful}
use Rattle.sm_history.specs.Beginning.{Move, Made, Seals, gone_on, AreJudged, BeginsWith, IsLater}
use Rattle.sm_history.proofs.Living.{any_live}
use Rattle.sm_history.proofs.RowsBack.{live_back}
use Rattle.sm_history.proofs.SoundHistory.{live_or_new}
use Rattle.sm_history.proofs.LawfulLaws.{next_after, turn_more, turn_same}
use Rattle.sm_history.proofs.Versions.{version_after}
use Rattle.sm_history.proofs.HistoryLaws.{no_turns}
use Rattle.sm_history.proofs.TurnRows.{turn_rows}
use Rattle.sm_history.proofs.SegmentReads.{any_client, with_more, with_own, rows_case}
use Rattle.sm_history.proofs.Beginnings.{numbers_rise}
use Rattle.sm_history.proofs.NumbersFit.{sealed_lawful}

lengths_rise : (h : History) (ms : List Move) → length_of h ≤ length_of (gone_on h ms)
lengths_rise h [] = omega arith
lengths_rise h (Made e ∷ ms) = let i = lengths_rise h ms in omega (arith, i)
lengths_rise h (Seals ∷ ms) = let i = lengths_rise h ms in omega (arith, i)

versions_rise : (h : History) (ms : List Move) → version_at (effects_of h) ≤ version_at (effects_of (gone_on h ms))
versions_rise h [] = omega arith
versions_rise h (Made e ∷ ms) =
    let i = versions_rise h ms in
    let one = (version_after (effects_of (gone_on h ms)) (client_of e.by) e.event).0 in
    omega (arith, i, one)
versions_rise h (Seals ∷ ms) = versions_rise h ms

pub clients_rise : (h : History) (ms : List Move) → next_client (effects_of h) ≤ next_client (effects_of (gone_on h ms))
clients_rise h [] = omega arith
clients_rise h (Made e ∷ ms) =
    let i = clients_rise h ms in
    let one = (next_after (effects_of (gone_on h ms)) (client_of e.by) e.event).0 in
    omega (arith, i, one)
clients_rise h (Seals ∷ ms) = clients_rise h ms

-- ---- the turns behind a seal

row_case : (b : By) (n t : ℕ) (bs : List By) (a : _) → (list_any (is_same (Admin a)) bs ≡ false → t ≡ 0)
    → list_any (is_same (Admin a)) (if is_admin b then b ∷ bs else bs) ≡ false
    → (if is_same (Admin a) b then n else t) ≡ 0
row_case Manager n t bs a rest none = rest none
row_case (Client c) n t bs a rest none = rest none
row_case (Admin c) n t bs a rest none =
    let parts = or_parts (is_same (Admin a) (Admin c)) (list_any (is_same (Admin a)) bs) none in
    rw parts.0 (rest parts.1)

-- An administrator that has no row has made no change.
no_row : (rs : List TurnRow) (a : _) → list_any (is_same (Admin a)) (filter is_admin (map (λ (r : TurnRow). r.by) rs))
    ≡ false
    → turns_in rs (Admin a) ≡ 0
no_row [] a none = refl
no_row (r ∷ rs) a none =
    row_case r.by r.turns (turns_in rs (Admin a)) (filter is_admin (map (λ (x : TurnRow). x.by) rs)) a (no_row rs a)
    none

pub none_made : (number : ℕ) (o : Opening) (es : List Entry) (a : _)
    → list_any (is_same (Admin a)) (admins_after o.turns es) ≡ false
    → turn_of (record { number = number; opening = o; entries = es }) (Admin a) ≡ 0
none_made number o [] a none = let z = no_row o.turns a none in omega (arith, z)
none_made number o (e ∷ es) a none =
    turn_more e (record { number = number; opening = o; entries = es }) (Admin a)
    (with_own a e.by (admins_after o.turns es) none)
    ∙ none_made number o es a (with_more (Admin a) e.by (admins_after o.turns es) none)

among_actors : (h : History) (by : By) → is_there (effects_of h) by ≡ true
    → list_any (is_same by) (actors_of h) ≡ false → turn_of h by ≡ 0
among_actors h Manager there none = absurd (true≢false none)
among_actors h (Client c) there none =
    let ks = live_clients (effects_of h) in
    absurd (true≢false (sym (any_client c.0 ks ∙ any_live (effects_of h) c.0 ∙ there)
    ∙ (or_parts (list_any (is_same (Client c)) (map client ks)) (list_any (is_same (Client c)) (admins_of h))
    (sym (list_any-append (is_same (Client c)) (map client ks) (admins_of h)) ∙ none)).0))
among_actors h (Admin a) there none =
    let ks = live_clients (effects_of h) in
    none_made h.number h.opening h.entries a
    (or_parts (list_any (is_same (Admin a)) (map client ks)) (list_any (is_same (Admin a)) (admins_of h))
    (sym (list_any-append (is_same (Admin a)) (map client ks) (admins_of h)) ∙ none)).1

-- A seal leaves the turns of who is there.
pub sealed_turn : (h : History) (by : By) → is_there (effects_of h) by ≡ true → turn_of (sealed h) by ≡ turn_of h by
sealed_turn h by there =
    let rows = turn_rows h by (actors_of h)
    ∙ rows_case (list_any (is_same by) (actors_of h)) (turn_of h by) (among_actors h by there) in
    omega (arith, rows)

pub sealed_there : (h : History) (by : By) → is_there (effects_of (sealed h)) by ≡ is_there (effects_of h) by
sealed_there h Manager = refl
sealed_there h (Client c) = live_back (effects_of h) c.0
sealed_there h (Admin a) = refl

-- ---- turns

turn_rises : (e : Entry) (h : History) (by : By) → turn_of h by ≤ turn_of (entered e h) by
turn_rises e h by = elim (is_same by e.by) as (λ b. is_same by e.by ≡ b → turn_of h by ≤ turn_of (entered e h) by) [
  | true ↦ λ s. let t = turn_same e h by s in omega (arith, t)
  | false ↦ λ s. let t = turn_more e h by s in omega (arith, t)
] refl

-- Who is there was there, or had made no change.
was_there : (places : ℕ) (old h : History) (e : Entry) (by : By) → IsLawful places old
    → next_client (effects_of old) ≤ next_client (effects_of h) → is_there (effects_of (entered e h)) by ≡ true
    → (is_there (effects_of h) by ≡ true) ⊎ (turn_of old by ≡ 0)
was_there places old h e Manager l more there = inl refl
was_there places old h e (Admin a) l more there = inl refl
was_there places old h e (Client c) l more there =
    elim (live_or_new (effects_of h) (client_of e.by) e.event c.0 there) as
    (λ _. (is_live (effects_of h) c.0 ≡ true) ⊎ (turn_of old (Client c) ≡ 0)) [
      | inl live ↦ inl live
      | inr new ↦ inr (no_turns places old l c.0 (omega (arith, more, new)))
    ]

turns_on : (places : ℕ) (old : History) → IsLawful places old → (ms : List Move) (by : By)
    → is_there (effects_of (gone_on old ms)) by ≡ true → turn_of old by ≤ turn_of (gone_on old ms) by
turns_on places old l [] by there = omega arith
turns_on places old l (Made e ∷ ms) by there =
    let h = gone_on old ms in
    let rises = turn_rises e h by in
    elim (was_there places old h e by l (clients_rise old ms) there) as
    (λ _. turn_of old by ≤ turn_of (entered e h) by) [
      | inl before ↦ let i = turns_on places old l ms by before in omega (arith, i, rises)
      | inr none ↦ omega (arith, none)
    ]
turns_on places old l (Seals ∷ ms) by there =
    let h = gone_on old ms in
    let before : is_there (effects_of h) by ≡ true = sym (sealed_there h by) ∙ there in
    let i = turns_on places old l ms by before in
    let same = sealed_turn h by before in
    omega (arith, i, same)

later_on : (places : ℕ) (old : History) (ms : List Move) → IsLawful places old → IsLater (gone_on old ms) old
later_on places old ms l = record {
  number = numbers_rise old ms;
  length = lengths_rise old ms;
  version = versions_rise old ms;
  clients = clients_rise old ms;
  turns = λ by there. turns_on places old l ms by there;
}

-- No number, length, version or turn of who is there goes back.
pub later : (places : ℕ) (new old : History) → IsLawful places old → BeginsWith places new old → IsLater new old
later places new old l b = subst (λ (h : History). IsLater h old) (sym b.is) (later_on places old b.moves l)

lawful_on : (places : ℕ) (old : History) (ms : List Move) → IsLawful places old → AreJudged places old ms
    → IsLawful places (gone_on old ms)
lawful_on places old [] l judged = l
lawful_on places old (Made e ∷ ms) l judged = inr (lawful_on places old ms l judged.1, judged.0)
lawful_on places old (Seals ∷ ms) l judged = sealed_lawful places (gone_on old ms) (lawful_on places old ms l judged)

-- What begins with a lawful history is lawful.
pub later_lawful : (places : ℕ) (new old : History) → IsLawful places old → BeginsWith places new old
    → IsLawful places new
later_lawful places new old l b = subst (IsLawful places) (sym b.is) (lawful_on places old b.moves l b.judged)
