-- Where tables agree, objects are passed and watchers are notified alike, and the tables agree afterwards.
use Rattle.std.proofs.Common.{◌≡◌, ℕ, Bool, true, false, ◌==◌, List, [], ◌∷◌, refl, ap, sym, ◌∙◌, length, Option, Some}
use Rattle.std.proofs.Common.{None, if◌then◌else◌}
use Rattle.std.specs.Prelude.{nat_lt, nat_le, filter, is_none, bytes_eq}
use Rattle.std.specs.List.{list_all}
use Rattle.std.proofs.lemmas.Bool.{true≢false, and_parts}
use Rattle.sm_values.specs.declared.number.Node.{Node}
use Rattle.sm_values.specs.declared.number.ObjRef.{ObjRef}
use Rattle.sm_values.specs.declared.number.ObjRef.TheVariants.{Own as OwnRef, Handle as HandleRef, Null as NullRef}
use Rattle.sm_history.specs.FailedChecks.{FailedCheck}
use Rattle.sm_history.specs.declared.notice.Notice.{Notice}
use Rattle.sm_history.specs.declared.notice.Told.TheVariants.{Told as IsTold}
use Rattle.sm_history.specs.declared.delivery.Delivery.{Delivery}
use Rattle.sm_history.specs.declared.delivery.Given.{Given}
use Rattle.sm_history.specs.Effects.{Effects, Watch, Gives}
use Rattle.sm_history.specs.Clients.{is_live}
use Rattle.sm_history.specs.Holdings.{is_held, number_at, node_at, free_number, number_for, given_to, handed}
use Rattle.sm_history.specs.Holdings.{fits_handles, resolve_at}
use Rattle.sm_history.specs.Services.{watches_at, watchers_at, watches_made}
use Rattle.sm_history.specs.Inboxes.{has_inbox_room}
use Rattle.sm_history.specs.Checks.{first_failing, Check, Wants}
use Rattle.sm_history.specs.Notices.{notice_checks, first_missing, registration, notice_at, told_of, after_told}
use Rattle.sm_history.specs.Notices.{after_notice, after_notices, notices_at}
use Rattle.sm_history.specs.Histories.{given_ref, handed_ref, given_refs, handed_refs}
use Rattle.sm_history.proofs.Keeps.{handed_keeps, ref_keeps, refs_keep, told_keeps}
use Rattle.sm_history.proofs.LeastFree.{free_is_free}
use Rattle.sm_history.proofs.Fresh.{all_filtered, all_filtered_again}
use Rattle.sm_history.proofs.HeldAlike.{counts_alike}
use Rattle.sm_history.proofs.Sound.{Numbers}
use Rattle.sm_history.proofs.AgreeEffects.{Sim, sim_held, sim_nodes, sim_free, sim_gives, sim_delivers}
use Rattle.sm_history.specs.declared.limits.TheConstants.{MOST_HANDLES, MOST_DELIVERIES}
use Rattle.sm_history.specs.EarlyAnswers.{EarlyAnswer}

pub both : {A B C : Type 0} (f : A → B → C) {a a' : A} {b b' : B} → a ≡ a' → b ≡ b' → f a b ≡ f a' b'
both {A} {B} {C} f {a} {a'} {b} {b'} p q = ap (λ x. f x b) p ∙ ap (f a') q

pub wants_alike : (r : EarlyAnswer) {a b : Bool} → a ≡ b → Wants a r ≡ Wants b r
wants_alike r p = ap (λ t. Wants t r) p

pub cons_alike : {x y : Check} {xs ys : List Check} → x ≡ y → xs ≡ ys → (let l : List Check = x ∷ xs in l) ≡ y ∷ ys
cons_alike {x} {y} {xs} {ys} p q = ap (λ (v : Check). let l : List Check = v ∷ xs in l) p ∙ ap (λ l. y ∷ l) q

-- ---- passing objects

pub number_for_alike : (d e : Effects) (c : ℕ) (n : Node) → Sim d e → number_for d c n ≡ number_for e c n
number_for_alike d e c n s =
    elim (is_held d c n) as (λ b. is_held d c n ≡ b → (if b then number_at d c n else free_number d c)
    ≡ number_for e c n) [
      | true ↦ λ h. s.agree.numbers c n h ∙ sym (rw (sym (sim_held d e c n s) ∙ h) refl)
      | false ↦ λ h. sim_free d e c s ∙ sym (rw (sym (sim_held d e c n s) ∙ h) refl)
    ] refl

is_nothing : (o : Option Node) → is_none o ≡ true → o ≡ None
is_nothing None h = refl
is_nothing (Some x) h = absurd (true≢false (sym h))

pub number_for_is : (d : Effects) (c : ℕ) (n : Node) → Numbers d c n (number_for d c n)
number_for_is d c n = record {
  old = λ h. rw h refl;
  free = λ h. rw h (is_nothing (node_at d c (free_number d c)) (free_is_free d c));
}

pub given_alike : (d e : Effects) (c : ℕ) (n : Node) → Sim d e → given_to d c n ≡ given_to e c n
given_alike d e c n s = rw (number_for_alike d e c n s) refl

pub sim_handed : (d e : Effects) (c : ℕ) (n : Node) → is_live d c ≡ true → Sim d e → Sim (handed d c n) (handed e c n)
sim_handed d e c n live s =
    let given : Sim (Gives c n (number_for d c n) ∷ d) (Gives c n (number_for e c n) ∷ e) =
    rw (← number_for_alike d e c n s) (sim_gives d e c n (number_for d c n) live (number_for_is d c n) s) in
    elim (n.owner.0 == c) as (λ b. Sim (if b then d else Gives c n (number_for d c n) ∷ d)
    (if b then e else Gives c n (number_for e c n) ∷ e)) [ true ↦ s | false ↦ given ]

pub live_handed : (d : Effects) (c : ℕ) (n : Node) (k : ℕ) → is_live (handed d c n) k ≡ is_live d k
live_handed d c n k = handed_keeps (λ e. is_live e k ≡ is_live d k) (λ i m r e h. h) d c n refl

pub fits_alike : (d e : Effects) (c : ℕ) → Sim d e → fits_handles d c ≡ fits_handles e c
fits_alike d e c s = ap (λ k. nat_le k MOST_HANDLES) (counts_alike d e c (λ n. sim_held d e c n s))

pub room_alike : (d e : Effects) (c : ℕ) → Sim d e → has_inbox_room d c ≡ has_inbox_room e c
room_alike d e c s = ap (λ (xs : List Delivery). nat_lt (length xs) MOST_DELIVERIES) (s.agree.inboxes c)

-- ---- notices

notice_checks_alike : (d e : Effects) (n : Node) (w : Watch) → Sim d e → is_live d w.client ≡ true
    → notice_checks d n w ≡ notice_checks e n w
notice_checks_alike d e n w s live = let k = w.client in
    rw (room_alike d e k s, fits_alike (handed d k n) (handed e k n) k (sim_handed d e k n live s))
    (rw (s.agree.who k live, s.agree.manager, s.agree.policy) refl)

pub missing_alike : (d e : Effects) (n : Node) (w : Watch) → Sim d e → is_live d w.client ≡ true
    → first_missing d n w ≡ first_missing e n w
missing_alike d e n w s live = both first_failing s.agree.policy (notice_checks_alike d e n w s live)

pub registration_alike : (d e : Effects) (n : Node) (w : Watch) → Sim d e → registration d n w ≡ registration e n w
registration_alike d e n w s = rw (given_alike d e w.client n s) refl

told_alike : (d e : Effects) (n : Node) (w : Watch) (o : Option FailedCheck) → Sim d e
    → told_of d n w o ≡ told_of e n w o
told_alike d e n w None s = ap (λ (x : Delivery). IsTold x) (registration_alike d e n w s)
told_alike d e n w (Some failing) s = refl

pub notice_alike : (d e : Effects) (n : Node) (w : Watch) → Sim d e → is_live d w.client ≡ true
    → notice_at d n w ≡ notice_at e n w
notice_alike d e n w s live = rw (missing_alike d e n w s live, told_alike d e n w (first_missing e n w) s) refl

sim_told : (d e : Effects) (n : Node) (w : Watch) (o : Option FailedCheck) → Sim d e → is_live d w.client ≡ true
    → Sim (after_told d n w o) (after_told e n w o)
sim_told d e n w None s live =
    rw (← registration_alike d e n w s)
    (sim_delivers (handed d w.client n) (handed e w.client n) w.client (registration d n w)
    (live_handed d w.client n w.client ∙ live) (sim_handed d e w.client n live s))
sim_told d e n w (Some failing) s live = s

pub sim_notice : (d e : Effects) (n : Node) (w : Watch) → Sim d e → is_live d w.client ≡ true
    → Sim (after_notice d n w) (after_notice e n w)
sim_notice d e n w s live = rw (← missing_alike d e n w s live) (sim_told d e n w (first_missing d n w) s live)

pub live_notice : (d : Effects) (n : Node) (w : Watch) (k : ℕ) → is_live (after_notice d n w) k ≡ is_live d k
live_notice d n w k =
    told_keeps (λ e. is_live e k ≡ is_live d k) (λ i m r e h. h) (λ i x e h. h) d n w (first_missing d n w) refl

-- Every watch is of a live client.
abbrev pub AllLive : Effects → List Watch → Type 0
AllLive d ws = list_all (λ w. is_live d w.client) ws ≡ true

pub all_same : (p q : ℕ → Bool) (ws : List Watch) → ((k : ℕ) → q k ≡ p k) → list_all (λ w. p w.client) ws ≡ true
    → list_all (λ w. q w.client) ws ≡ true
all_same p q [] same h = refl
all_same p q (w ∷ ws) same h = let parts = and_parts (p w.client) (list_all (λ (v : Watch). p v.client) ws) h in
    rw (same w.client ∙ parts.0) (all_same p q ws same parts.1)

pub sim_notices : (d e : Effects) (n : Node) (ws : List Watch) → Sim d e → AllLive d ws
    → Sim (after_notices d n ws) (after_notices e n ws)
sim_notices d e n [] s live = s
sim_notices d e n (w ∷ ws) s live =
    sim_notices (after_notice d n w) (after_notice e n w) n ws
    (sim_notice d e n w s (and_parts (is_live d w.client) (list_all (λ (v : Watch). is_live d v.client) ws) live).0)
    (all_same (is_live d) (is_live (after_notice d n w)) ws (λ k. live_notice d n w k)
    (and_parts (is_live d w.client) (list_all (λ (v : Watch). is_live d v.client) ws) live).1)

pub notices_alike : (d e : Effects) (n : Node) (ws : List Watch) → Sim d e → AllLive d ws
    → notices_at d n ws ≡ notices_at e n ws
notices_alike d e n [] s live = refl
notices_alike d e n (w ∷ ws) s live =
    let here = (and_parts (is_live d w.client) (list_all (λ (v : Watch). is_live d v.client) ws) live).0 in
    ap (λ (x : Notice). x ∷ notices_at (after_notice d n w) n ws) (notice_alike d e n w s here)
    ∙ ap (λ (xs : List Notice). notice_at e n w ∷ xs)
    (notices_alike (after_notice d n w) (after_notice e n w) n ws (sim_notice d e n w s here)
    (all_same (is_live d) (is_live (after_notice d n w)) ws (λ k. live_notice d n w k)
    (and_parts (is_live d w.client) (list_all (λ (v : Watch). is_live d v.client) ws) live).1))

pub watchers_alike : (d e : Effects) (name : List ℕ) → Sim d e → watchers_at d name ≡ watchers_at e name
watchers_alike d e name s = ap (filter (λ (w : Watch). bytes_eq w.name name)) s.agree.watches

pub watchers_live : (d : Effects) (name : List ℕ) → AllLive d (watchers_at d name)
watchers_live d name = all_filtered_again (λ (w : Watch). bytes_eq w.name name) (λ (w : Watch). is_live d w.client)
    (watches_at d) (all_filtered (λ (w : Watch). is_live d w.client) (λ (w : Watch). is_live d w.client)
    (watches_made d) (λ w h. h))

-- ---- references

pub resolve_alike : (d e : Effects) (c : ℕ) (r : ObjRef) → Sim d e → resolve_at d c r ≡ resolve_at e c r
resolve_alike d e c (OwnRef o) s = refl
resolve_alike d e c (HandleRef r) s = sim_nodes d e c r s
resolve_alike d e c NullRef s = refl

given_ref_alike : (d e : Effects) (to : ℕ) (o : Option Node) → Sim d e → given_ref d to o ≡ given_ref e to o
given_ref_alike d e to None s = refl
given_ref_alike d e to (Some n) s = given_alike d e to n s

pub sim_ref : (d e : Effects) (to : ℕ) (o : Option Node) → is_live d to ≡ true → Sim d e
    → Sim (handed_ref d to o) (handed_ref e to o)
sim_ref d e to None live s = s
sim_ref d e to (Some n) live s = sim_handed d e to n live s

pub live_ref : (d : Effects) (to : ℕ) (o : Option Node) (k : ℕ) → is_live (handed_ref d to o) k ≡ is_live d k
live_ref d to o k = ref_keeps (λ e. is_live e k ≡ is_live d k) (λ i m r e h. h) d to o refl

sim_resolved : (d e : Effects) (from to : ℕ) (r : ObjRef) → is_live d to ≡ true → Sim d e
    → Sim (handed_ref d to (resolve_at d from r)) (handed_ref e to (resolve_at e from r))
sim_resolved d e from to r live s = rw (← resolve_alike d e from r s) (sim_ref d e to (resolve_at d from r) live s)

pub sim_refs : (d e : Effects) (from to : ℕ) (rs : List ObjRef) → is_live d to ≡ true → Sim d e
    → Sim (handed_refs d from to rs) (handed_refs e from to rs)
sim_refs d e from to [] live s = s
sim_refs d e from to (r ∷ rs) live s =
    sim_refs (handed_ref d to (resolve_at d from r)) (handed_ref e to (resolve_at e from r)) from to rs
    (live_ref d to (resolve_at d from r) to ∙ live) (sim_resolved d e from to r live s)

pub live_refs : (d : Effects) (from to : ℕ) (rs : List ObjRef) (k : ℕ)
    → is_live (handed_refs d from to rs) k ≡ is_live d k
live_refs d from to rs k = refs_keep (λ e. is_live e k ≡ is_live d k) (λ i m r e h. h) d from to rs refl

pub given_refs_alike : (d e : Effects) (from to : ℕ) (rs : List ObjRef) → is_live d to ≡ true → Sim d e
    → given_refs d from to rs ≡ given_refs e from to rs
given_refs_alike d e from to [] live s = refl
given_refs_alike d e from to (r ∷ rs) live s =
    both (λ (g : Given) (gs : List Given). let l : List Given = g ∷ gs in l)
    (ap (given_ref d to) (resolve_alike d e from r s) ∙ given_ref_alike d e to (resolve_at e from r) s)
    (given_refs_alike (handed_ref d to (resolve_at d from r)) (handed_ref e to (resolve_at e from r)) from to rs
    (live_ref d to (resolve_at d from r) to ∙ live) (sim_resolved d e from to r live s))
