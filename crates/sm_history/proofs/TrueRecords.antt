-- What checks leave is true of the history in which they are made.
use Rattle.std.proofs.Common.{inl, inr, ◌≡◌, ℕ, ◌-◌, Bool, true, false, ◌==◌, List, [], ◌∷◌, ◌++◌, drop, refl}
use Rattle.std.proofs.Common.{ap, sym, ◌∙◌, subst, Option, Some, None, if◌then◌else◌, arith}
use Rattle.std.specs.Prelude.{not, ◌&&◌, is_none}
use Rattle.std.specs.List.{All, list_all}
use Rattle.std.proofs.lemmas.Bool.{true≢false, and_parts, not-true, not-false}
use Rattle.std.proofs.lemmas.List.Elements.{All-append, All-nil, All-cons}
use Rattle.sm_values.specs.Users.{is_barred, is_isolated_user}
use Rattle.sm_values.specs.Contexts.{type_of}
use Rattle.sm_values.specs.declared.class.Class.{Class}
use Rattle.sm_values.specs.declared.perms.Perms.{Perms}
use Rattle.sm_values.specs.declared.identity.Identity.{Identity}
use Rattle.sm_values.specs.declared.number.Node.{Node}
use Rattle.sm_values.specs.declared.number.ObjRef.{ObjRef}
use Rattle.sm_values.specs.declared.number.ObjRef.TheVariants.{Own, Handle, Null}
use Rattle.sm_policy.specs.Policy.{Policy, written, silenced, audits}
use Rattle.sm_history.specs.declared.by.By.{By}
use Rattle.sm_history.specs.declared.by.By.TheVariants.{Client}
use Rattle.sm_history.specs.declared.denial.Denial.{Denial}
use Rattle.sm_history.specs.declared.denial.Denial.TheVariants.{Rule, App, Isolated}
use Rattle.sm_history.specs.declared.event.Event.{Event}
use Rattle.sm_history.specs.declared.event.Event.TheVariants.{Open, Connect, Add, Get, Watch as WatchName, Unwatch}
use Rattle.sm_history.specs.declared.event.Event.TheVariants.{Unregister, Call, Die}
use Rattle.sm_history.specs.declared.query.Query.{Query}
use Rattle.sm_history.specs.declared.query.Query.TheVariants.{List as ListNames, Version, Explain}
use Rattle.sm_history.specs.declared.records.Record.{Record}
use Rattle.sm_history.specs.EarlyAnswers.{EarlyAnswer}
use Rattle.sm_history.specs.EarlyAnswers.{Refused}
use Rattle.sm_history.specs.declared.refusal.Refusal.TheVariants.{Failed, JournalFull}
use Rattle.sm_history.specs.declared.refusal.Failure.TheVariants.{NotYours, NotConnected, OutOfTurn}
use Rattle.sm_history.specs.Effects.{Effects, Service, Watch, Adds, Watches}
use Rattle.sm_history.specs.Clients.{manager_at, identity_at, is_live, is_opened, policy_at, version_at}
use Rattle.sm_history.specs.Checks.{Check, Needs, Spares, Wants, holds, first_failing}
use Rattle.sm_history.specs.Holdings.{resolve_at, node_at}
use Rattle.sm_history.specs.Services.{service_at, watchers_at}
use Rattle.sm_history.specs.Notices.{notice_checks, first_missing, after_notice}
use Rattle.sm_history.specs.Histories.{History, length_of, turn_of, client_of, effects_of, found, service, watch}
use Rattle.sm_history.specs.Verdict.{event_checks, is_theirs, is_there, has_place, passes_to_manager}
use Rattle.sm_history.specs.Verdict.{passes_to_client, all_pass_to_client, handing_checks}
use Rattle.sm_history.specs.Queries.{query_checks, is_their_query}
use Rattle.sm_history.specs.Records.{moment_of, rule_record, clause_record, left_by, left_by_all, left_by_notices}
use Rattle.sm_history.specs.Records.{left_by_watch, left_by_telling, records, query_records, prefix_at, Stands}
use Rattle.sm_history.specs.Records.{IsDeniedBy, IsTrueOf}
use Rattle.sm_history.proofs.AgreeChecks.{Acts}
use Rattle.sm_history.proofs.AgreeEvents.{acts_of}
use Rattle.sm_history.proofs.AgreeNotices.{AllLive, watchers_live}
use Rattle.sm_history.proofs.Keeps.{told_keeps}

-- ---- the identities of effects

pub live_stands : (d : Effects) (c : ℕ) → is_live d c ≡ true → Stands d (identity_at d c)
live_stands d c live = inr (c, live, refl)

pub opened_stands : (d : Effects) → is_opened d ≡ true → Stands d (manager_at d)
opened_stands d opened = inl (opened, refl)

-- ---- checks whose records are true

-- A clause that bars holds of the user number.
abbrev pub Bars : Denial → Identity → Type 0
Bars (Rule s t class perm) who = ⊥
Bars (App uid) who = (uid ≡ who.uid) × (is_barred uid ≡ true)
Bars (Isolated uid) who = (uid ≡ who.uid) × (is_isolated_user uid ≡ true)

-- Whoever is checked belongs to the effects, and a clause that fails covers the user number.
abbrev pub IsGood : Effects → Check → Type 0
IsGood d (Needs class perm who target name) = Stands d who
IsGood d (Spares ok denial who name) = Stands d who × (ok ≡ false → Bars denial who)
IsGood d (Wants ok instead) = Unit {0}

abbrev pub AllGood : Effects → List Check → Type 0
AllGood d [] = Unit {0}
AllGood d (x ∷ xs) = IsGood d x × AllGood d xs

good_append : (d : Effects) (xs ys : List Check) → AllGood d xs → AllGood d ys → AllGood d (xs ++ ys)
good_append d [] ys gs hs = hs
good_append d (x ∷ xs) ys (g, gs) hs = (g, good_append d xs ys gs hs)

pub prefix_now : (h : History) → prefix_at h (length_of h) ≡ h
prefix_now h = ap (λ (k : ℕ). let g : History =
    record { number = h.number; opening = h.opening; entries = drop k h.entries } in g)
    (let z : length_of h - length_of h ≡ 0 = omega arith in z)

pub true_now : (h : History) (r : Record) → r.length ≡ length_of h → r.version ≡ version_at (effects_of h)
    → Stands (effects_of h) r.who → IsDeniedBy (effects_of h) r r.denial → IsTrueOf h r
true_now h r at version stands denied =
    let is : h ≡ prefix_at h r.length = sym (ap (prefix_at h) at ∙ prefix_now h) in
    record {
      behind = omega (arith, at);
      within = omega (arith, at);
      version = version ∙ ap (λ (g : History). version_at (effects_of g)) is;
      stands = subst (λ (g : History). Stands (effects_of g) r.who) is stands;
      denied = subst (λ (g : History). IsDeniedBy (effects_of g) r r.denial) is denied;
    }

-- What is recorded isn't granted by a rule.
unwritten : (p : Policy) (s t : List ℕ) (class : Class) (perm : Perms) → audits p s t class perm ≡ true
    → written p s t class perm ≡ false
unfolding audits
unwritten p s t class perm e =
    not-true (written p s t class perm)
    (and_parts (not (written p s t class perm)) (not (silenced p s t class perm)) e).0

clause_denied : (h : History) (denial : Denial) (who : Identity) (name : List ℕ) → Bars denial who
    → IsDeniedBy (effects_of h) (clause_record (moment_of h) denial who name) denial
clause_denied h (Rule s t class perm) who name b = absurd b
clause_denied h (App uid) who name (is, bars) = (is, bars, refl)
clause_denied h (Isolated uid) who name (is, bars) = (is, bars, refl)

left_true : (h : History) (x : Check) → IsGood (effects_of h) x → All (IsTrueOf h) (left_by (moment_of h) x)
left_true h (Needs class perm who target name) stands =
    let s = type_of who.context in
    let t = type_of target in
    let p = policy_at (effects_of h) in
    let r = rule_record (moment_of h) class perm who target name in
    elim (audits p s t class perm) as (λ b. audits p s t class perm ≡ b →
    All (IsTrueOf h) (let rs : List Record = if b then r ∷ [] else [] in rs)) [
      | true ↦ λ e. All-cons (IsTrueOf h) r [] (true_now h r refl refl stands
          (target, refl, refl, refl, unwritten p s t class perm e, refl)) (All-nil (IsTrueOf h))
      | false ↦ λ e. All-nil (IsTrueOf h)
    ] refl
left_true h (Spares true denial who name) good = All-nil (IsTrueOf h)
left_true h (Spares false denial who name) (stands, bars) =
    let r = clause_record (moment_of h) denial who name in
    All-cons (IsTrueOf h) r [] (true_now h r refl refl stands (clause_denied h denial who name (bars refl)))
    (All-nil (IsTrueOf h))
left_true h (Wants ok instead) good = All-nil (IsTrueOf h)

pub left_all_true : (h : History) (xs : List Check) → AllGood (effects_of h) xs
    → All (IsTrueOf h) (left_by_all (moment_of h) xs)
left_all_true h [] good = All-nil (IsTrueOf h)
left_all_true h (x ∷ xs) (g, gs) =
    let m = moment_of h in
    All-append (IsTrueOf h) (left_by m x) (if holds m.policy x then left_by_all m xs else []) (left_true h x g)
    (elim (holds m.policy x) as (λ b. All (IsTrueOf h) (if b then left_by_all m xs else [])) [
      | true ↦ left_all_true h xs gs
      | false ↦ All-nil (IsTrueOf h)
    ])

-- ---- the checks of events

barred_good : (d : Effects) (c : ℕ) → is_live d c ≡ true → Stands d (identity_at d c)
    × (not (is_barred (identity_at d c).uid) ≡ false → Bars (App (identity_at d c).uid) (identity_at d c))
barred_good d c live = (live_stands d c live, λ e. (refl, not-false (is_barred (identity_at d c).uid) e))

isolated_good : (d : Effects) (c : ℕ) (b : Bool) → is_live d c ≡ true → Stands d (identity_at d c)
    × (not (is_isolated_user (identity_at d c).uid && b) ≡ false →
    Bars (Isolated (identity_at d c).uid) (identity_at d c))
isolated_good d c b live =
    let i = is_isolated_user (identity_at d c).uid in
    (live_stands d c live, λ e. (refl, (and_parts i b (not-false (i && b) e)).0))

to_manager_good : (d : Effects) (c : ℕ) (r : ObjRef) → is_live d c ≡ true → AllGood d (passes_to_manager d c r)
to_manager_good d c (Own o) live = (tt, (live_stands d c live, tt))
to_manager_good d c (Handle n) live = (tt, (live_stands d c live, tt))
to_manager_good d c Null live = tt

to_client_good : (d : Effects) (c k : ℕ) (r : ObjRef) → is_live d c ≡ true → AllGood d (passes_to_client d c k r)
to_client_good d c k (Own o) live = (tt, (live_stands d c live, tt))
to_client_good d c k (Handle n) live = (tt, (live_stands d c live, tt))
to_client_good d c k Null live = tt

all_to_client_good : (d : Effects) (c k : ℕ) (rs : List ObjRef) → is_live d c ≡ true
    → AllGood d (all_pass_to_client d c k rs)
all_to_client_good d c k [] live = tt
all_to_client_good d c k (r ∷ rs) live =
    good_append d (passes_to_client d c k r) (all_pass_to_client d c k rs) (to_client_good d c k r live)
    (all_to_client_good d c k rs live)

handing_good : (d : Effects) (c : ℕ) (o : Option Service) → AllGood d (handing_checks d c o)
handing_good d c None = tt
handing_good d c (Some s) = (tt, (tt, tt))

-- The checks of an event of a live client, or of another actor.
event_good : (d : Effects) (c : ℕ) (event : Event) → is_opened d ≡ true → Acts d c event
    → AllGood d (event_checks d c event)
event_good d c (Open who policy) opened acts = tt
event_good d c (Connect who) opened acts = (tt, tt)
event_good d c (Add name obj allow dump) opened live = (
  live_stands d c live,
  good_append d (passes_to_manager d c obj) _ (to_manager_good d c obj live)
      (barred_good d c live, (live_stands d c live, (tt, (tt, (tt, (tt, tt)))))),
)
event_good d c (Get name) opened live = let here = live_stands d c live in
    (here, (isolated_good d c _ live, (here, (tt, (opened_stands d opened, handing_good d c (service_at d name))))))
event_good d c (WatchName name object) opened live = let here = live_stands d c live in
    (here, (here, (here, (isolated_good d c true live, (tt, (tt, tt))))))
event_good d c (Unwatch name object) opened live = let here = live_stands d c live in (here, (here, (here, (tt, tt))))
event_good d c (Unregister name obj) opened live = (
  live_stands d c live,
  good_append d (passes_to_manager d c obj) _ (to_manager_good d c obj live)
      (tt, (live_stands d c live, (tt, (tt, (tt, (tt, tt)))))),
)
event_good d c (Call handle payload refs) opened live = let k = (found (node_at d c handle)).owner.0 in
    let all = all_to_client_good d c k refs live in
    (tt, (tt, (live_stands d c live, good_append d (all_pass_to_client d c k refs) _ all (tt, tt))))
event_good d c Die opened live = tt
event_good d c _ opened acts = (tt, tt)

-- ---- notices

-- Effects that name the same processes.
pub record SameProcesses (d e : Effects) : Type 0 where
  pub clients : (c : ℕ) → identity_at e c ≡ identity_at d c
  pub manager : manager_at e ≡ manager_at d

notice_good : (d e : Effects) (n : Node) (w : Watch) → SameProcesses d e → is_opened d ≡ true
    → is_live d w.client ≡ true → AllGood d (notice_checks e n w)
notice_good d e n w s opened live =
    let manager = subst (Stands d) (sym s.manager) (opened_stands d opened) in
    (subst (Stands d) (sym (s.clients w.client)) (live_stands d w.client live), (manager, (manager, (tt, tt))))

notices_true : (h : History) (e : Effects) (n : Node) (ws : List Watch) → SameProcesses (effects_of h) e
    → is_opened (effects_of h) ≡ true → AllLive (effects_of h) ws
    → All (IsTrueOf h) (left_by_notices (moment_of h) e n ws)
notices_true h e n [] s opened live = All-nil (IsTrueOf h)
notices_true h e n (w ∷ ws) s opened live =
    let d = effects_of h in
    let lives = and_parts (is_live d w.client) (list_all (λ (v : Watch). is_live d v.client) ws) live in
    let same = told_keeps (SameProcesses d) (λ c m r b i. record { clients = i.clients; manager = i.manager })
    (λ c x b i. record { clients = i.clients; manager = i.manager }) e n w (first_missing e n w) s in
    All-append (IsTrueOf h) (left_by_all (moment_of h) (notice_checks e n w))
    (left_by_notices (moment_of h) (after_notice e n w) n ws)
    (left_all_true h (notice_checks e n w) (notice_good d e n w s opened lives.0))
    (notices_true h (after_notice e n w) n ws same opened lives.1)

watch_true : (h : History) (e : Effects) (w : Watch) (o : Option Service) → SameProcesses (effects_of h) e
    → is_opened (effects_of h) ≡ true → is_live (effects_of h) w.client ≡ true
    → All (IsTrueOf h) (left_by_watch (moment_of h) e w o)
watch_true h e w None s opened live = All-nil (IsTrueOf h)
watch_true h e w (Some t) s opened live = notices_true h e t.node (w ∷ []) s opened (rw live refl)

telling_true : (h : History) (c : ℕ) (event : Event) → is_opened (effects_of h) ≡ true → Acts (effects_of h) c event
    → All (IsTrueOf h) (left_by_telling (moment_of h) (effects_of h) c event)
telling_true h c (Add name obj allow dump) opened live =
    let d = effects_of h in
    let n = found (resolve_at d c obj) in
    notices_true h (Adds name (service c n allow dump) ∷ d) n (watchers_at d name)
    (record { clients = λ k. refl; manager = refl }) opened (watchers_live d name)
telling_true h c (WatchName name object) opened live =
    let d = effects_of h in
    watch_true h (Watches (watch c name object) ∷ d) (watch c name object) (service_at d name)
    (record { clients = λ k. refl; manager = refl }) opened live
telling_true h c _ opened acts = All-nil (IsTrueOf h)

-- ---- events and queries

-- What is left behind two conditions, which hold or nothing is left.
behind_true : (h : History) (a b : Bool) (i j : EarlyAnswer) (xs : List Check) (told : List Record)
    → (a ≡ true → b ≡ true → AllGood (effects_of h) xs) → (a ≡ true → b ≡ true → All (IsTrueOf h) told)
    → All (IsTrueOf h) (left_by_all (moment_of h) (Wants a i ∷ Wants b j ∷ xs)
    ++ (if is_none (first_failing (policy_at (effects_of h)) (Wants a i ∷ Wants b j ∷ xs)) then told else []))
behind_true h false b i j xs told good tells = All-nil (IsTrueOf h)
behind_true h true false i j xs told good tells = All-nil (IsTrueOf h)
behind_true h true true i j xs told good tells =
    All-append (IsTrueOf h) (left_by_all (moment_of h) xs)
    (if is_none (first_failing (policy_at (effects_of h)) xs) then told else [])
    (left_all_true h xs (good refl refl))
    (elim (is_none (first_failing (policy_at (effects_of h)) xs)) as (λ b. All (IsTrueOf h) (if b then told else [])) [
      | true ↦ tells refl refl
      | false ↦ All-nil (IsTrueOf h)
    ])

pub event_records_true : (places : ℕ) (h : History) (by : By) (turn : ℕ) (event : Event)
    → is_opened (effects_of h) ≡ true → All (IsTrueOf h) (records places h by turn event)
event_records_true places h by turn event opened =
    let d = effects_of h in
    let c = client_of by in
    let place = Wants (has_place places h c event) (Refused JournalFull) ∷ [] in
    behind_true h (is_theirs by event) (is_there d by) (Refused (Failed NotYours)) (Refused (Failed NotConnected))
    (Wants (turn == turn_of h by) (Refused (Failed (OutOfTurn (turn_of h by)))) ∷ event_checks d c event ++ place)
    (left_by_telling (moment_of h) d c event)
    (λ theirs there. (
      tt,
      good_append d (event_checks d c event) place
          (event_good d c event opened (acts_of d by event theirs there)) (tt, tt),
    ))
    (λ theirs there. telling_true h c event opened (acts_of d by event theirs there))

query_good : (d : Effects) (by : By) (q : Query) → is_their_query by q ≡ true → is_there d by ≡ true
    → AllGood d (query_checks d (client_of by) q)
query_good d (Client c) (ListNames mask) theirs there = (live_stands d c.0 there, (live_stands d c.0 there, tt))
query_good d by (ListNames mask) theirs there = absurd (true≢false (sym theirs))
query_good d by Version theirs there = tt
query_good d by (Explain s t class perm) theirs there = tt

asked_true : (h : History) (a b : Bool) (i j : EarlyAnswer) (xs : List Check)
    → (a ≡ true → b ≡ true → AllGood (effects_of h) xs)
    → All (IsTrueOf h) (left_by_all (moment_of h) (Wants a i ∷ Wants b j ∷ xs))
asked_true h false b i j xs good = All-nil (IsTrueOf h)
asked_true h true false i j xs good = All-nil (IsTrueOf h)
asked_true h true true i j xs good = left_all_true h xs (good refl refl)

pub query_records_true : (h : History) (by : By) (q : Query) → All (IsTrueOf h) (query_records h by q)
query_records_true h by q =
    let d = effects_of h in
    asked_true h (is_their_query by q) (is_there d by) (Refused (Failed NotYours)) (Refused (Failed NotConnected))
    (query_checks d (client_of by) q) (query_good d by q)
