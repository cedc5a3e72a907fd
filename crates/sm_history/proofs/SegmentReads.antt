-- A history is read like the segment of its older part's rows and its newer part.
use Rattle.std.proofs.Common.{inl, inr, ◌⊎◌, ◌≡◌, ℕ, ◌+◌, ◌≤◌, Bool, true, false, ◌||◌, List, [], ◌∷◌, ◌++◌, refl, ap}
use Rattle.std.proofs.Common.{sym, ◌∙◌, map, Option, Some, None, if◌then◌else◌, arith}
use Rattle.std.specs.Prelude.{filter, cond}
use Rattle.std.specs.List.{list_any}
use Rattle.std.proofs.lemmas.Bool.{true≢false, or_parts}
use Rattle.std.proofs.lemmas.List.{length-append}
use Rattle.std.proofs.lemmas.List.Folds.{list_any-append}
use Rattle.std.proofs.lemmas.List.Sums.{sum_by-cons}
use Rattle.std.proofs.lemmas.List.Elements.{filter_agree}
use Rattle.sm_policy.specs.Policy.{Policy}
use Rattle.sm_history.specs.FailedChecks.{FailedCheck}
use Rattle.sm_history.specs.declared.by.By.{By}
use Rattle.sm_history.specs.declared.by.By.TheVariants.{Manager, Client, Admin}
use Rattle.sm_history.specs.declared.event.Event.{Event}
use Rattle.sm_history.specs.declared.entry.Entry.{Entry}
use Rattle.sm_history.specs.declared.query.Query.{Query}
use Rattle.sm_history.specs.declared.query.Query.TheVariants.{List as ListNames, Version as AskVersion, Explain}
use Rattle.sm_history.specs.declared.reply.Reply.TheVariants.{Done}
use Rattle.sm_history.specs.EarlyAnswers.{Refused}
use Rattle.sm_history.specs.declared.refusal.Refusal.TheVariants.{Failed}
use Rattle.sm_history.specs.declared.refusal.Failure.TheVariants.{NotYours, NotConnected}
use Rattle.sm_history.specs.Effects.{Effects}
use Rattle.sm_history.specs.Clients.{is_live, live_clients, next_client, policy_at}
use Rattle.sm_history.specs.Services.{service_at, current_names}
use Rattle.sm_history.specs.Checks.{Wants, first_failing}
use Rattle.sm_history.specs.Histories.{History, whole, length_of, turn_of, client_of, effects_of, after_event}
use Rattle.sm_history.specs.Openings.{is_same, turns_in}
use Rattle.sm_history.specs.Lawful.{AreLawfulApart}
use Rattle.sm_history.specs.SegmentLaw.{SegmentsRead}
use Rattle.sm_history.proofs.TurnRows.{same_actor, turn_rows}
use Rattle.sm_history.proofs.HistoryLaws.{no_turns_apart}
use Rattle.sm_history.proofs.Induction.{sound_apart}
use Rattle.sm_history.specs.Verdict.{is_there, service_meets}
use Rattle.sm_history.specs.Queries.{is_their_query, query_checks, list_checks, found_out, names_by_mask, shares_bit}
use Rattle.sm_history.specs.Queries.{query_verdict, looked, checks_of_query}
use Rattle.sm_history.specs.Segments.{with_admin, admins_after, admins_of, client, actors_of, rows_of, segment_of}
use Rattle.sm_history.specs.Segments.{looked_at, asked, verdict_apart}
use Rattle.sm_history.proofs.LawfulLaws.{next_after}
use Rattle.sm_history.proofs.Rising.{names_alike}
use Rattle.sm_history.proofs.AgreeEffects.{Sim}
use Rattle.sm_history.proofs.AgreeChecks.{behind_alike}
use Rattle.sm_history.proofs.AgreeEvents.{judged_alike, sim_event, there_alike}
use Rattle.sm_history.proofs.Living.{any_live}
use Rattle.sm_history.proofs.RowsSound.{sim_rows}
use Rattle.sm_history.proofs.PutRows.{among}
use Rattle.sm_history.proofs.SoundHistory.{met, live_or_new}
use Rattle.sm_history.proofs.Balanced.{turned}

-- ---- the turns in rows

pub any_client : (k : ℕ) (ks : List ℕ) → list_any (is_same (client k)) (map client ks) ≡ among k ks
any_client k [] = refl
any_client k (j ∷ js) = rw (turned k j, any_client k js) refl

pub with_more : (a b : By) (bys : List By) → list_any (is_same a) (with_admin b bys) ≡ false
    → list_any (is_same a) bys ≡ false
with_more a Manager bys h = h
with_more a (Client c) bys h = h
with_more a (Admin c) bys h =
    elim (list_any (is_same (Admin c)) bys) as (λ t. list_any (is_same a) (if t then bys else bys ++ Admin c ∷ [])
    ≡ false → list_any (is_same a) bys ≡ false) [
      | true ↦ λ e. e
      | false ↦ λ e. (or_parts (list_any (is_same a) bys) (is_same a (Admin c) || false)
          (sym (list_any-append (is_same a) bys (Admin c ∷ [])) ∙ e)).0
    ] h

pub with_own : (a : _) (b : By) (bys : List By) → list_any (is_same (Admin a)) (with_admin b bys) ≡ false
    → is_same (Admin a) b ≡ false
with_own a Manager bys h = refl
with_own a (Client c) bys h = refl
with_own a (Admin c) bys h =
    elim (is_same (Admin a) (Admin c)) as (λ t. is_same (Admin a) (Admin c) ≡ t → t ≡ false) [
      | false ↦ λ e. refl
      | true ↦ λ e.
          let same = same_actor (Admin a) (Admin c) e in
          let none : list_any (is_same (Admin c)) bys ≡ false = ap (λ (v : By). list_any (is_same v) bys) (sym same) ∙
          with_more (Admin a) (Admin c) bys h in
          let put : list_any (is_same (Admin a)) (bys ++ Admin c ∷ []) ≡ false =
          ap (λ (t : Bool). list_any (is_same (Admin a)) (if t then bys else bys ++ Admin c ∷ [])) (sym none) ∙ h in
          sym e ∙ (or_parts (is_same (Admin a) (Admin c)) false
          (or_parts (list_any (is_same (Admin a)) bys) (is_same (Admin a) (Admin c) || false)
          (sym (list_any-append (is_same (Admin a)) bys (Admin c ∷ [])) ∙ put)).1).0
    ] refl

count_case : (b : Bool) (k n : ℕ) → k ≡ cond b 1 0 + n → b ≡ false → n ≡ 0 → k ≡ 0
count_case true k n e h z = absurd (true≢false h)
count_case false k n e h z = omega (arith, e, z)

-- An administrator that isn't among those that made a change made none.
no_changes : (es : List Entry) (a : _) → list_any (is_same (Admin a)) (admins_after [] es) ≡ false
    → turn_of (whole es) (Admin a) ≡ 0
no_changes [] a none = refl
no_changes (e ∷ es) a none =
    count_case (is_same (Admin a) e.by) (turn_of (whole (e ∷ es)) (Admin a)) (turn_of (whole es) (Admin a))
    (let cons = sum_by-cons (λ (x : Entry). cond (is_same (Admin a) x.by) 1 0) e es in omega (arith, cons))
    (with_own a e.by (admins_after [] es) none) (no_changes es a (with_more (Admin a) e.by (admins_after [] es) none))

-- Who is there, or is a client to come.
abbrev pub Speaks : Effects → By → Type 0
Speaks d Manager = Unit {0}
Speaks d (Client c) = (is_live d c.0 ≡ true) ⊎ (next_client d ≤ c.0)
Speaks d (Admin a) = Unit {0}

pub rows_case : (t : Bool) (v : ℕ) → (t ≡ false → v ≡ 0) → (if t then v else 0) ≡ v
rows_case true v z = refl
rows_case false v z = sym (z refl)

opening_turns : (es : List Entry) (by : By) → AreLawfulApart es → Speaks (effects_of (whole es)) by
    → turns_in (rows_of (whole es)).turns by ≡ turn_of (whole es) by
opening_turns es Manager l speaks =
    let a = whole es in
    turn_rows a Manager (actors_of a) ∙ refl
opening_turns es (Admin b) l speaks =
    let a = whole es in
    turn_rows a (Admin b) (actors_of a)
    ∙ rows_case (list_any (is_same (Admin b)) (actors_of a)) (turn_of a (Admin b)) (λ e.
    no_changes es b (or_parts (list_any (is_same (Admin b)) (map client (live_clients (effects_of a))))
    (list_any (is_same (Admin b)) (admins_of a))
    (sym (list_any-append (is_same (Admin b)) (map client (live_clients (effects_of a))) (admins_of a)) ∙ e)).1)
opening_turns es (Client c) l (inl live) =
    let a = whole es in
    let ks = live_clients (effects_of a) in
    turn_rows a (Client c) (actors_of a)
    ∙ rows_case (list_any (is_same (Client c)) (actors_of a)) (turn_of a (Client c)) (λ e.
    absurd (true≢false (sym (any_client c.0 ks ∙ any_live (effects_of a) c.0 ∙ live)
    ∙ (or_parts (list_any (is_same (Client c)) (map client ks)) (list_any (is_same (Client c)) (admins_of a))
    (sym (list_any-append (is_same (Client c)) (map client ks) (admins_of a)) ∙ e)).0)))
opening_turns es (Client c) l (inr new) =
    let a = whole es in
    turn_rows a (Client c) (actors_of a)
    ∙ rows_case (list_any (is_same (Client c)) (actors_of a)) (turn_of a (Client c)) (λ e. no_turns_apart es l c.0 new)

-- ---- the segment's tables and turns

pub record Follows (a b : List Entry) : Type 0 where
  pub sim : Sim (effects_of (whole (b ++ a))) (effects_of (segment_of a b))
  pub turns : (by : By) → Speaks (effects_of (whole (b ++ a))) by →
      turn_of (whole (b ++ a)) by ≡ turn_of (segment_of a b) by

spoke : (d : Effects) (c : ℕ) (event : Event) (by : By) → Speaks (after_event d c event) by → Speaks d by
spoke d c event Manager speaks = tt
spoke d c event (Admin a) speaks = tt
spoke d c event (Client k) (inl live) = live_or_new d c event k.0 live
spoke d c event (Client k) (inr new) = let n = (next_after d c event).0 in inr (omega (arith, n, new))

-- A change of a lawful history is the verdict on the one before.
next_of : (e : Entry) (h : List Entry) → AreLawfulApart h → AreLawfulApart (e ∷ h)
    → verdict_apart (whole h) e.by e.turn e.event ≡ Done e.outcome
next_of e [] l m = absurd l
next_of e (f ∷ h) l m = m.1

older : (e : Entry) (a b : List Entry) → AreLawfulApart a → AreLawfulApart (e ∷ (b ++ a)) → AreLawfulApart (b ++ a)
older e a [] la l = la
older e a (f ∷ b) la l = l.0

pub follows : (a b : List Entry) → AreLawfulApart a → AreLawfulApart (b ++ a) → Follows a b
follows a [] la l = record {
  sim = sim_rows (effects_of (whole a)) (sound_apart a la);
  turns = λ by speaks. let e = opening_turns a by la speaks in omega (arith, e);
}
follows a (e ∷ b) la l =
    let h = whole (b ++ a) in
    let d = effects_of h in
    let lh = older e a b la l in
    let f = follows a b la lh in
    let m = met d (turn_of h e.by) e.by e.turn e.event [] e.outcome (next_of e (b ++ a) lh l) in
    record {
      sim = sim_event d (effects_of (segment_of a b)) (client_of e.by) e.event f.sim m.acts m.passes;
      turns = λ by speaks.
          let all = sum_by-cons (λ (x : Entry). cond (is_same by x.by) 1 0) e (b ++ a) in
          let new = sum_by-cons (λ (x : Entry). cond (is_same by x.by) 1 0) e b in
          let before = f.turns by (spoke d (client_of e.by) e.event by speaks) in omega (arith, all, new, before);
    }

-- ---- verdicts and answers

speaks_there : (d : Effects) (by : By) → is_there d by ≡ true → Speaks d by
speaks_there d Manager there = tt
speaks_there d (Client c) there = inl there
speaks_there d (Admin a) there = tt

masked_alike : (d e : Effects) (mask : ℕ) → Sim d e → names_by_mask d mask ≡ names_by_mask e mask
masked_alike d e mask s =
    filter_agree (λ name. service_meets (shares_bit mask) (service_at d name))
    (λ name. service_meets (shares_bit mask) (service_at e name))
    (λ name. ap (service_meets (shares_bit mask)) (s.agree.services name)) (current_names d)
    ∙ ap (filter (λ name. service_meets (shares_bit mask) (service_at e name))) (names_alike d e s.agree.services)

found_alike : (d e : Effects) (q : Query) → Sim d e → found_out d q ≡ found_out e q
found_alike d e (ListNames mask) s = rw (masked_alike d e mask s) refl
found_alike d e AskVersion s = refl
found_alike d e (Explain x t class perm) s = rw s.agree.policy refl

list_alike : (d e : Effects) (c : ℕ) → Sim d e → is_live d c ≡ true → list_checks d c ≡ list_checks e c
list_alike d e c s live = rw (s.agree.who c live, s.agree.manager) refl

query_checks_alike : (d e : Effects) (by : By) (q : Query) → Sim d e → is_their_query by q ≡ true
    → is_there d by ≡ true → query_checks d (client_of by) q ≡ query_checks e (client_of by) q
query_checks_alike d e by AskVersion s theirs there = refl
query_checks_alike d e by (Explain x t class perm) s theirs there = refl
query_checks_alike d e (Client c) (ListNames mask) s theirs there = list_alike d e c.0 s there
query_checks_alike d e by (ListNames mask) s theirs there = absurd (true≢false (sym theirs))

looked_alike : (d e : Effects) (len : ℕ) (q : Query) (o : Option FailedCheck) → Sim d e
    → looked_at d len q o ≡ looked_at e len q o
looked_alike d e len q None s = rw (s.agree.version, found_alike d e q s) refl
looked_alike d e len q (Some failing) s = refl

pub asked_alike : (d e : Effects) (len : ℕ) (by : By) (q : Query) → Sim d e → asked d len by q ≡ asked e len by q
asked_alike d e len by q s =
    let c = client_of by in
    let rest = λ (b : Effects). Wants (is_there b by) (Refused (Failed NotConnected)) ∷ query_checks b c q in
    ap (looked_at d len q)
    (behind_alike (policy_at d) (Refused (Failed NotYours)) (is_their_query by q) (is_their_query by q) (rest d)
    (rest e) refl (λ theirs.
    behind_alike (policy_at d) (Refused (Failed NotConnected)) (is_there d by) (is_there e by) (query_checks d c q)
    (query_checks e c q) (there_alike d e by s) (λ there.
    ap (first_failing (policy_at d)) (query_checks_alike d e by q s theirs there)))
    ∙ ap (λ (p : Policy). first_failing p (Wants (is_their_query by q) (Refused (Failed NotYours)) ∷ rest e))
    s.agree.policy)
    ∙ looked_alike d e len q (first_failing (policy_at e)
    (Wants (is_their_query by q) (Refused (Failed NotYours)) ∷ rest e)) s

looked_is : (h : History) (q : Query) (o : Option FailedCheck)
    → looked h q o ≡ looked_at (effects_of h) (length_of h) q o
looked_is h q None = refl
looked_is h q (Some failing) = refl

answer_is : (h : History) (by : By) (q : Query) → query_verdict h by q ≡ asked (effects_of h) (length_of h) by q
answer_is h by q = looked_is h q (first_failing (policy_at (effects_of h)) (checks_of_query h by q))

pub segments_read : SegmentsRead
segments_read a b la l =
    let f = follows a b la l in
    let h = whole (b ++ a) in
    let g = segment_of a b in
    record {
      verdicts = λ by turn event. judged_alike (effects_of h) (effects_of g) (turn_of h by) (turn_of g by) by turn
          event [] f.sim (λ there. f.turns by (speaks_there (effects_of h) by there));
      answers = λ by q.
          answer_is h by q
          ∙ asked_alike (effects_of h) (effects_of g) (length_of h) by q f.sim
          ∙ ap (λ (n : ℕ). asked (effects_of g) n by q) (let n = length-append b a in omega (arith, n))
          ∙ sym (answer_is g by q);
    }
