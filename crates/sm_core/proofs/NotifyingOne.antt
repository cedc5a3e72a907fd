-- One watcher is notified, or isn't.
use Rattle.std.proofs.Common.{◌≡◌, ℕ, ◌-◌, inl, inr, Bool, true, false, ◌&&◌, ◌||◌, ◌==◌}
use Rattle.std.proofs.Common.{List, [], ◌∷◌, ◌++◌, refl, ap, sym, ◌∙◌, subst, length, Option}
use Rattle.std.proofs.Common.{Some, None, if◌then◌else◌, cond, arith, append-nil, length-append}
use Rattle.std.specs.Global.{Vec}
use Rattle.std.specs.Prelude.{nat_lt, nat_eq, unwrap_or}
use Rattle.std.specs.List.{list_any}
use Rattle.std.proofs.lemmas.Bool.Decides.{nat_tests}
use Rattle.std.proofs.lemmas.Bool.{true≢false, and_parts}
use Rattle.sm_values.specs.declared.number.Node.{Node}
use Rattle.sm_values.specs.declared.identity.Identity.{Identity}
use Rattle.sm_values.specs.declared.perms.Perms.{Perms}
use Rattle.sm_values.specs.declared.class.Class.TheVariants.{Binder, ServiceManager}
use Rattle.sm_policy.specs.Policy.{Policy, label_of}
use Rattle.sm_history.specs.declared.delivery.Delivery.{Delivery}
use Rattle.sm_history.specs.declared.delivery.Given.{Given}
use Rattle.sm_history.specs.declared.delivery.Given.TheVariants.{Handle, Own}
use Rattle.sm_history.specs.FailedChecks.{FailedCheck}
use Rattle.sm_history.specs.EarlyAnswers.{Refused}
use Rattle.sm_history.specs.declared.refusal.Refusal.TheVariants.{Failed}
use Rattle.sm_history.specs.declared.refusal.Failure.TheVariants.{TargetFull}
use Rattle.sm_history.specs.declared.notice.Reason.{Reason}
use Rattle.sm_history.specs.declared.notice.Told.TheVariants.{Told as IsTold, NotTold}
use Rattle.sm_history.specs.declared.limits.TheConstants.{MOST_DELIVERIES}
use Rattle.sm_history.specs.Effects.{Effects}
use Rattle.sm_history.specs.declared.effect.Effect.{Effect}
use Rattle.sm_history.specs.declared.effect.Effect.TheVariants.{Gives, Delivers}
use Rattle.sm_history.specs.declared.effect.Watch.{Watch}
use Rattle.sm_history.specs.Clients.{policy_at, is_live}
use Rattle.sm_history.specs.Holdings.{number_for, handed, fits_handles, given_to}
use Rattle.sm_history.specs.Inboxes.{inbox_at, has_inbox_room}
use Rattle.sm_history.specs.declared.reply.Reply.{Reply}
use Rattle.sm_history.specs.Checks.{Check, Needs, Wants, answer_of, holds, failed_check_of, first_failing, from_manager}
use Rattle.sm_history.specs.Checks.{to_label, finding, calling, transferring}
use Rattle.sm_history.specs.Following.{followed, MayAllApart}
use Rattle.sm_history.specs.Notices.{notice_checks, first_missing, told_of, reason_of, registration, after_told}
use Rattle.sm_history.specs.Sound.{IsTakenFrom}
use Rattle.sm_history.proofs.AfterInboxes.{inbox_delivers}
use Rattle.sm_history.proofs.AgreeNotices.{both, cons_alike, wants_alike}
use Rattle.sm_core.specs.declared.draft.Draft.{Draft}
use Rattle.sm_core.specs.declared.inbox_rooms.InboxRooms.{InboxRooms}
use Rattle.sm_core.specs.Stands.{is_death}
use Rattle.sm_core.specs.Judging.{Halts, AllPass, out_of_memory, reason_by}
use Rattle.sm_history.specs.declared.records.Record.{Record}
use Rattle.sm_history.specs.Records.{moment_of, left_by_all}
use Rattle.sm_history.specs.Histories.{History, effects_of}
use Rattle.sm_core.proofs.Stopping.{answers, asked_is}
use Rattle.sm_core.specs.Notifications.{told_checks, gives_of, told_to, free_at, AsBefore}
use Rattle.sm_core.specs.Notifications.{MayTell, left_in, left_at, AreNotifications, GoesOn}
use Rattle.sm_core.proofs.AsBefore.{before_gives, before_delivers}

-- ---- effects in order

pub followed_more : (d : Effects) (xs ys : List Effect) → followed d (xs ++ ys) ≡ followed (followed d xs) ys
followed_more d [] ys = refl
followed_more d (x ∷ xs) ys = followed_more (x ∷ d) xs ys

pub may_more : (d : Effects) (xs ys : List Effect) → MayAllApart d xs → MayAllApart (followed d xs) ys
    → MayAllApart d (xs ++ ys)
may_more d [] ys a b = b
may_more d (x ∷ xs) ys a b = (a.0, may_more (x ∷ d) xs ys a.1 b)

none_more : (p : Effect → Bool) (xs ys : List Effect) → list_any p xs ≡ false → list_any p ys ≡ false
    → list_any p (xs ++ ys) ≡ false
none_more p [] ys a b = b
none_more p (x ∷ xs) ys a b =
    elim (p x) as (λ t. (t || list_any p xs) ≡ false → (t || list_any p (xs ++ ys)) ≡ false) [
      | true ↦ λ f. absurd (true≢false f)
      | false ↦ λ f. none_more p xs ys f b
    ] a

given_may : (d : Effects) (n : Node) (xs : List Effect) (c : ℕ) → MayTell d n xs → is_live d c ≡ true
    → (n.owner.0 == c) ≡ false → fits_handles (handed d c n) c ≡ true
    → MayTell d n (xs ++ Gives c n (number_for d c n) ∷ [])
given_may d n xs c m live other fits =
    let e = followed d xs in
    let r = number_for d c n in
    let is : r ≡ number_for e c n = sym (m.before.numbers c live) in
    let on = followed_more d xs (Gives c n r ∷ []) in
    let now : handed e c n ≡ Gives c n r ∷ e =
    ap (λ (b : Bool). let f : Effects = if b then e else Gives c n (number_for e c n) ∷ e in f) other
    ∙ ap (λ (v : ℕ). let f : Effects = Gives c n v ∷ e in f) (sym is) in
    record {
      before = subst (λ (f : Effects). AsBefore d f n)
          (ap (λ (v : ℕ). let f : Effects = Gives c n v ∷ e in f) (sym is) ∙ sym on)
          (before_gives d e n c m.before live other);
      may = may_more d xs (Gives c n r ∷ []) m.may (
        (
          m.before.lives c ∙ live,
          is,
          other,
          subst (λ (f : Effects). fits_handles f c ≡ true) now (m.before.fits c live ∙ fits),
        ),
        tt,
      );
      none_dies = none_more is_death xs (Gives c n r ∷ []) m.none_dies refl;
    }

delivered_may : (d : Effects) (n : Node) (xs : List Effect) (c : ℕ) (x : Delivery) → MayTell d n xs
    → is_live d c ≡ true → has_inbox_room (followed d xs) c ≡ true
    → MayTell d n (xs ++ Delivers c x ∷ [])
delivered_may d n xs c x m live room = record {
  before = subst (λ (f : Effects). AsBefore d f n) (sym (followed_more d xs (Delivers c x ∷ [])))
      (before_delivers d (followed d xs) n c x m.before live);
  may = may_more d xs (Delivers c x ∷ []) m.may ((m.before.lives c ∙ live, room), tt);
  none_dies = none_more is_death xs (Delivers c x ∷ []) m.none_dies refl;
}

-- ---- the object is passed

record IsHanded (d : Effects) (n : Node) (xs : List Effect) (c : ℕ) (g : Given) : Type 0 where
  may : MayTell d n (xs ++ gives_of c n g)
  after : followed d (xs ++ gives_of c n g) ≡ handed (followed d xs) c n
  inboxes : (k : ℕ) → inbox_at (followed d (xs ++ gives_of c n g)) k ≡ inbox_at (followed d xs) k

is_handed : (d : Effects) (n : Node) (xs : List Effect) (c : ℕ) → MayTell d n xs → is_live d c ≡ true
    → fits_handles (handed d c n) c ≡ true → IsHanded d n xs c (given_to d c n)
is_handed d n xs c m live fits =
    let e = followed d xs in
    elim (n.owner.0 == c) as (λ b. (n.owner.0 == c) ≡ b
    → IsHanded d n xs c (let g : Given = if b then Own n.object else Handle (number_for d c n) in g)) [
      | true ↦ λ own.
          let none = append-nil xs in
          record {
            may = subst (λ (ys : List Effect). MayTell d n ys) (sym none) m;
            after = ap (followed d) none
                ∙ ap (λ (b : Bool). let f : Effects = if b then e else Gives c n (number_for e c n) ∷ e in f) (sym own);
            inboxes = λ k. ap (λ (ys : List Effect). inbox_at (followed d ys) k) none;
          }
      | false ↦ λ other.
          let r = number_for d c n in
          let is : r ≡ number_for e c n = sym (m.before.numbers c live) in
          let on = followed_more d xs (Gives c n r ∷ []) in
          record {
            may = given_may d n xs c m live other fits;
            after = on ∙ ap (λ (v : ℕ). let f : Effects = Gives c n v ∷ e in f) is
                ∙ ap (λ (b : Bool). let f : Effects = if b then e else Gives c n (number_for e c n) ∷ e in f)
                (sym other);
            inboxes = λ k. ap (λ (f : Effects). inbox_at f k) on;
          }
    ] refl

-- ---- the checks

passed : (p : Policy) (x : Check) (xs : List Check) → first_failing p (x ∷ xs) ≡ None
    → (holds p x ≡ true) × (first_failing p xs ≡ None)
passed p x xs e =
    elim (holds p x) as (λ b. (let o : Option FailedCheck =
    if b then first_failing p xs else Some (failed_check_of x) in o) ≡ None →
    (b ≡ true) × (first_failing p xs ≡ None)) [
      | true ↦ λ h. (refl, h)
      | false ↦ λ h. cc
    ] e

has_room_left : (left n : ℕ) → left ≡ 256 - n → nat_lt 0 left ≡ nat_lt n 256
has_room_left left n is =
    elim (nat_lt n 256) as (λ b. nat_lt n 256 ≡ b → nat_lt 0 left ≡ b) [
      | true ↦ λ e. grind (arith, nat_tests)
      | false ↦ λ e. grind (arith, nat_tests)
    ] refl

-- The checks of a notice are those asked of the state before.
checks_same : (d e : Effects) (n : Node) (w : Watch) (left : ℕ) → AsBefore d e n → is_live d w.client ≡ true
    → left ≡ free_at e w.client → told_checks d n w left ≡ notice_checks e n w
checks_same d e n w left b live is =
    let from : (p : Perms) → from_manager d w.client p ≡ from_manager e w.client p =
    λ p. both (λ (v m : Identity). Needs Binder p m v.context None) (sym (b.who w.client)) (sym b.manager) in
    cons_alike (both (λ (v : Identity) (q : Policy). Needs ServiceManager finding v (label_of q w.name) (Some w.name))
    (sym (b.who w.client)) (sym b.policy))
    (cons_alike (from calling) (cons_alike (from transferring)
    (cons_alike (wants_alike (Refused (Failed TargetFull))
    (both (λ a b. a && b) (has_room_left left (length (inbox_at e w.client)) is) (sym (b.fits w.client live))))
    refl)))

missing_same : (d e : Effects) (n : Node) (w : Watch) (left : ℕ) → AsBefore d e n → is_live d w.client ≡ true
    → left ≡ free_at e w.client → first_failing (policy_at d) (told_checks d n w left) ≡ first_missing e n w
missing_same d e n w left b live is = both first_failing (sym b.policy) (checks_same d e n w left b live is)

-- ---- inboxes

left_case : (t : Bool) (left : ℕ) (o : Option ℕ) (free after : ℕ) → (t ≡ true → left - 1 ≡ after)
    → (t ≡ false → unwrap_or o free ≡ after) → unwrap_or (cond t (Some (left - 1)) o) free ≡ after
left_case true left o free after a b = a refl
left_case false left o free after a b = b refl

free_now : (f : Effects) (c : ℕ) (x : Delivery) → IsTakenFrom f → is_live f c ≡ true
    → free_at (Delivers c x ∷ f) c ≡ free_at f c - 1
free_now f c x taken live =
    let self : (c == c) ≡ true = grind (arith, nat_tests) in
    let is : inbox_at (Delivers c x ∷ f) c ≡ inbox_at f c ++ x ∷ [] =
    inbox_delivers f c x c taken ∙ rw (self, live) refl in
    let n = ap (length {A = Delivery}) is ∙ length-append (inbox_at f c) (x ∷ []) in
    omega (arith, n)

free_other : (f : Effects) (c : ℕ) (x : Delivery) (k : ℕ) → IsTakenFrom f → (c == k) ≡ false
    → free_at (Delivers c x ∷ f) k ≡ free_at f k
free_other f c x k taken other =
    ap (λ (xs : List Delivery). MOST_DELIVERIES - length xs) (inbox_delivers f c x k taken ∙ rw other refl)

-- ---- why a watcher isn't notified

no_answer : (o : Option FailedCheck) → answers o ≡ None → o ≡ None
no_answer None e = refl
no_answer (Some s) e = cc

-- A failed check has this reason, by its answer.
abbrev HasReason : FailedCheck → Type 0
HasReason f = reason_by (answer_of f) ≡ reason_of f

reason_first : (p : Policy) (x : Check) (xs : List Check) (f : FailedCheck) → HasReason (failed_check_of x)
    → ((g : FailedCheck) → first_failing p xs ≡ Some g → HasReason g) → first_failing p (x ∷ xs) ≡ Some f → HasReason f
reason_first p x xs f first rest e =
    elim (holds p x) as (λ b. (let o : Option FailedCheck =
    if b then first_failing p xs else Some (failed_check_of x) in o) ≡ Some f → HasReason f) [
      | true ↦ λ h. rest f h
      | false ↦ λ h. subst HasReason (ap (λ (o : Option FailedCheck). unwrap_or o f) h) first
    ] e

none_fails : {A : Type 0} (f : FailedCheck) → (let o : Option FailedCheck = None in o) ≡ Some f → A
none_fails f e = cc

reason_told : (p : Policy) (d : Effects) (n : Node) (w : Watch) (left : ℕ) (f : FailedCheck)
    → first_failing p (told_checks d n w left) ≡ Some f → HasReason f
reason_told p d n w left f =
    let room = Wants (nat_lt 0 left && fits_handles (handed d w.client n) w.client) (Refused (Failed TargetFull)) in
    reason_first p (to_label d w.client w.name finding)
    (from_manager d w.client calling ∷ from_manager d w.client transferring ∷ room ∷ []) f refl
    (λ a. reason_first p (from_manager d w.client calling) (from_manager d w.client transferring ∷ room ∷ []) a refl
    (λ b. reason_first p (from_manager d w.client transferring) (room ∷ []) b refl
    (λ c. reason_first p room [] c refl (λ g e. none_fails g e))))

why : (o : Option FailedCheck) (s : Reply) → answers o ≡ Some s
    → (f : FailedCheck) × (o ≡ Some f) × (answer_of f ≡ s)
why None s e = cc
why (Some f) s e = (f, refl, ap (λ (p : Option Reply). unwrap_or p (answer_of f)) e)

-- ---- one watcher

-- A watcher is notified if the checks hold.
pub tells : (h : History) (n : Node) (w : Watch) (old new : Draft) (rooms rooms' : InboxRooms) (mid : List Record)
    (left : ℕ) (g : Given) (x : Delivery) → let d = effects_of h in AreNotifications d n old rooms
    → is_live d w.client ≡ true → left ≡ left_at d rooms w.client
    → AllPass (moment_of h) old.told.items mid (told_checks d n w left) → new.told.items ≡ mid
    → new.records ≡ old.records → g ≡ given_to d w.client n → x ≡ told_to w g
    → new.effects.items ≡ (old.effects.items ++ gives_of w.client n g) ++ Delivers w.client x ∷ []
    → ((k : ℕ) → left_in rooms' k ≡ cond (nat_eq w.client k) (Some (left - 1)) (left_in rooms k))
    → (IsTold x ≡ told_of (followed d old.effects.items) n w (first_missing (followed d old.effects.items) n w))
    × GoesOn (moment_of h) d n w old new rooms'
tells h n w old new rooms rooms' mid left g x t live is asks noted kept given told items counts =
    let d = effects_of h in
    let m = moment_of h in
    let c = w.client in
    let xs = old.effects.items in
    let e = followed d xs in
    let p = policy_at d in
    let before = t.may.before in
    let free : left ≡ free_at e c = is ∙ t.left c live in
    let found = sym (asked_is m old.told.items (told_checks d n w left)) ∙ asks in
    let pass : first_failing p (told_checks d n w left) ≡ None =
    no_answer (first_failing p (told_checks d n w left)) (ap (λ (q : List Record × Option Reply). q.1) found) in
    let missing : first_missing e n w ≡ None = sym (missing_same d e n w left before live free) ∙ pass in
    let last = (passed p (Wants (nat_lt 0 left && fits_handles (handed d c n) c) (Refused (Failed TargetFull))) []
    (passed p (from_manager d c transferring)
    (Wants (nat_lt 0 left && fits_handles (handed d c n) c) (Refused (Failed TargetFull)) ∷ [])
    (passed p (from_manager d c calling) (from_manager d c transferring
    ∷ Wants (nat_lt 0 left && fits_handles (handed d c n) c) (Refused (Failed TargetFull)) ∷ [])
    (passed p (to_label d c w.name finding) (from_manager d c calling ∷ from_manager d c transferring
    ∷ Wants (nat_lt 0 left && fits_handles (handed d c n) c) (Refused (Failed TargetFull)) ∷ []) pass).1).1).1).0 in
    let ok = and_parts (nat_lt 0 left) (fits_handles (handed d c n) c) last in
    let handing : IsHanded d n xs c g = subst (λ (v : Given). IsHanded d n xs c v) (sym given)
    (is_handed d n xs c t.may live ok.1) in
    let ys = xs ++ gives_of c n g in
    let f = followed d ys in
    let room : has_inbox_room f c ≡ true =
    ap (λ (v : List Delivery). nat_lt (length v) MOST_DELIVERIES) (handing.inboxes c)
    ∙ sym (has_room_left left (length (inbox_at e c)) free) ∙ ok.0 in
    let reaches : given_to d c n ≡ given_to e c n =
    ap (λ (r : ℕ). let v : Given = if n.owner.0 == c then Own n.object else Handle r in v)
    (sym (before.numbers c live)) in
    let said : x ≡ registration e n w = told ∙ ap (told_to w) (given ∙ reaches) in
    let all = followed_more d ys (Delivers c x ∷ []) in
    let now : followed d new.effects.items ≡ Delivers c x ∷ f = ap (followed d) items ∙ all in
    let after : Delivers c x ∷ f ≡ after_told e n w None =
    ap (λ (v : Effects). let r : Effects = Delivers c x ∷ v in r) handing.after
    ∙ ap (λ (v : Delivery). let r : Effects = Delivers c v ∷ handed e c n in r) said in
    let taken = handing.may.before.sound.taken in (
      ap (λ (v : Delivery). IsTold v) said ∙ ap (told_of e n w) (sym missing),
      record {
        told = noted ∙ sym (ap (λ (q : List Record × Option Reply). q.0) found)
            ∙ ap (λ (xs : List Check). old.told.items ++ left_by_all m xs) (checks_same d e n w left before live free);
        records = kept;
        notifications = record {
          may = subst (λ (v : List Effect). MayTell d n v) (sym items) (delivered_may d n ys c x handing.may live room);
          left = λ k l.
              ap (λ (o : Option ℕ). unwrap_or o (free_at d k)) (counts k)
              ∙ left_case (nat_eq c k) left (left_in rooms k) (free_at d k) (free_at (Delivers c x ∷ f) k)
              (λ s.
              let same : c ≡ k = grind (arith, nat_tests) in
              subst (λ (v : ℕ). left - 1 ≡ free_at (Delivers c x ∷ f) v) same
              (ap (λ (v : ℕ). v - 1)
              (free ∙ ap (λ (v : List Delivery). MOST_DELIVERIES - length v) (sym (handing.inboxes c)))
              ∙ sym (free_now f c x taken (handing.may.before.lives c ∙ live))))
              (λ o. t.left k l ∙ ap (λ (v : List Delivery). MOST_DELIVERIES - length v) (sym (handing.inboxes k))
              ∙ sym (free_other f c x k taken o))
              ∙ ap (λ (v : Effects). free_at v k) (sym now);
        };
        after = now ∙ after ∙ ap (after_told e n w) (sym missing);
      },
    )

-- A watcher isn't notified if a check fails.
pub tells_not : (h : History) (n : Node) (w : Watch) (old new : Draft) (rooms : InboxRooms) (left : ℕ) (s : Reply)
    (r : Reason) → let d = effects_of h in new.effects ≡ old.effects → new.records ≡ old.records
    → AreNotifications d n old rooms → is_live d w.client ≡ true → left ≡ left_at d rooms w.client
    → Halts (moment_of h) old.told.items new.told.items (told_checks d n w left) s → (s ≡ out_of_memory → ⊥)
    → r ≡ reason_by s
    → (NotTold r ≡ told_of (followed d old.effects.items) n w (first_missing (followed d old.effects.items) n w))
    × GoesOn (moment_of h) d n w old new rooms
tells_not h n w old new rooms left s r same kept t live is (inl memory) other reasons = absurd (other memory)
tells_not h n w old new rooms left s r same kept t live is (inr asks) other reasons =
    let d = effects_of h in
    let m = moment_of h in
    let e = followed d old.effects.items in
    let free = is ∙ t.left w.client live in
    let checks = told_checks d n w left in
    let found = sym (asked_is m old.told.items checks) ∙ asks in
    let it = why (first_failing (policy_at d) checks) s (ap (λ (q : List Record × Option Reply). q.1) found) in
    let missing : first_missing e n w ≡ Some it.0 = sym (missing_same d e n w left t.may.before live free) ∙ it.1 in
    let reason : r ≡ reason_of it.0 =
    reasons ∙ ap reason_by (sym it.2) ∙ reason_told (policy_at d) d n w left it.0 it.1 in (
      ap (λ (v : Reason). NotTold v) reason ∙ ap (told_of e n w) (sym missing),
      record {
        told = sym (ap (λ (q : List Record × Option Reply). q.0) found)
            ∙ ap (λ (xs : List Check). old.told.items ++ left_by_all m xs)
            (checks_same d e n w left t.may.before live free);
        records = kept;
        notifications = record {
          may = subst (λ (v : Vec Effect). MayTell d n v.items) (sym same) t.may;
          left = λ k l. t.left k l ∙ ap (λ (v : Vec Effect). free_at (followed d v.items) k) (sym same);
        };
        after = ap (λ (v : Vec Effect). followed d v.items) same ∙ ap (after_told e n w) (sym missing);
      },
    )
