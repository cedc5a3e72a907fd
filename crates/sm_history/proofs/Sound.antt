-- What holds of the effects of every lawful history, effect by effect.
use Rattle.std.proofs.Common.{◌≡◌, ℕ, ◌+◌, ◌-◌, ◌≤◌, ◌<◌, Bool, true, false, ◌||◌, ◌&&◌, ◌==◌, List, [], ◌∷◌, ◌++◌}
use Rattle.std.proofs.Common.{refl, ap, sym, ◌∙◌, subst, length, drop, Option, Some, None, if◌then◌else◌, arith}
use Rattle.std.proofs.Common.{length-drop}
use Rattle.std.specs.Prelude.{nat_lt, not, cond, reverse, filter, filter_map}
use Rattle.std.specs.List.{list_any, cons_option}
use Rattle.std.proofs.lemmas.Bool.Decides.{nat_tests}
use Rattle.std.proofs.lemmas.Bool.{true≢false, or_from, or_parts}
use Rattle.std.proofs.lemmas.List.{length-reverse}
use Rattle.std.proofs.lemmas.List.Sums.{sum_by-cons}
use Rattle.sm_values.specs.declared.number.Node.{Node}
use Rattle.sm_values.specs.declared.identity.Identity.{Identity}
use Rattle.sm_policy.specs.Policy.{Policy}
use Rattle.sm_history.specs.declared.delivery.Delivery.{Delivery}
use Rattle.sm_history.specs.Effects.{Effect, Effects, Service, Watch, Opens, Sets, Connects, Dies, Adds, Removes}
use Rattle.sm_history.specs.Effects.{Gives, Releases, Watches, Unwatches, Delivers, Takes, same_node}
use Rattle.sm_history.specs.Clients.{is_live, next_client, live_clients, connected}
use Rattle.std.proofs.lemmas.List.Folds.{list_any-append}
use Rattle.sm_history.proofs.Lists.{any_filter}
use Rattle.sm_history.specs.Holdings.{refs_at, is_held, number_at, node_at}
use Rattle.sm_history.specs.Inboxes.{inbox_at, is_take_of}
use Rattle.sm_history.proofs.Fresh.{fresh_more, fresh_connect, below, live_below}
use Rattle.sm_history.proofs.Owners.{owned_lasts, add_owned}
use Rattle.sm_history.proofs.Balanced.{balanced_lasts, step, release, node_same, number_same}
use Rattle.sm_history.proofs.Grants.{held_gives}
use Rattle.sm_history.proofs.HeldAlike.{node_not_held, number_is}
use Rattle.sm_history.proofs.AfterClients.{IsNew, list_connects, list_dies, none_new, other_way}
use Rattle.sm_history.proofs.AfterHoldings.{refs_connects, refs_dies, refs_releases, number_gives}
use Rattle.sm_history.specs.Sound.{HasOneEach, IsBalanced, IsFresh, IsOnce, IsTakenFrom, Sound, deliveries, names}
use Rattle.sm_history.specs.Sound.{takes}

-- ---- held before, held after

pub held_connects : (d : Effects) (n : ℕ) (who : Identity) (c : ℕ) (m : Node) → IsNew d n
    → is_held (Connects n who ∷ d) c m ≡ is_held d c m
held_connects d n who c m new = ap (nat_lt 0) (refs_connects d n who c m new)

pub held_dies : (d : Effects) (c k : ℕ) (m : Node) → is_held (Dies c ∷ d) k m ≡ true → is_held d k m ≡ true
held_dies d c k m h =
    let h' : nat_lt 0 (if c == k then 0 else refs_at d k m) ≡ true = ap (nat_lt 0) (sym (refs_dies d c k m)) ∙ h in
    elim (c == k) as (λ b. nat_lt 0 (if b then 0 else refs_at d k m) ≡ true → is_held d k m ≡ true)
    [ true ↦ λ f. absurd (true≢false (sym f)) | false ↦ λ f. f ] h'

one_less : (r : ℕ) → nat_lt 0 (r - 1) ≡ true → nat_lt 0 r ≡ true
one_less r h = grind (arith, nat_tests)

pub held_releases : (d : Effects) (c : ℕ) (n : Node) (k : ℕ) (m : Node) → is_held (Releases c n ∷ d) k m ≡ true
    → is_held d k m ≡ true
held_releases d c n k m h =
    let h' : nat_lt 0 (if (c == k) && same_node n m then refs_at d k m - 1 else refs_at d k m) ≡ true =
    ap (nat_lt 0) (sym (refs_releases d c n k m)) ∙ h in
    elim ((c == k) && same_node n m) as (λ b. nat_lt 0 (if b then refs_at d k m - 1 else refs_at d k m) ≡ true →
    is_held d k m ≡ true) [ true ↦ λ f. one_less (refs_at d k m) f | false ↦ λ f. f ] h'

-- The number of a grant: the one that the client has for the object, or one that it has for none.
pub record Numbers (d : Effects) (c : ℕ) (n : Node) (r : ℕ) : Type 0 where
  pub old : is_held d c n ≡ true → r ≡ number_at d c n
  pub free : is_held d c n ≡ false → node_at d c r ≡ None

-- A number that is given with n is no other object's.
number_apart : (d : Effects) (c : ℕ) (n : Node) (r : ℕ) (m : Node) → HasOneEach d c → Numbers d c n r
    → is_held d c m ≡ true → r ≡ number_at d c m → n ≡ m
number_apart d c n r m one num held is =
    elim (is_held d c n) as (λ b. is_held d c n ≡ b → n ≡ m) [
      | true ↦ λ h. one n m h held (sym (num.old h) ∙ is)
      | false ↦ λ h. absurd (true≢false (sym (number_is (number_at d c m) r (sym is)) ∙
          node_not_held d c r m (num.free h) held))
    ] refl

own_single : (d : Effects) (c : ℕ) (n : Node) (r : ℕ) (m p : Node) (t u : Bool) → HasOneEach d c → Numbers d c n r
    → same_node n m ≡ t → same_node n p ≡ u → (if t then true else is_held d c m) ≡ true
    → (if u then true else is_held d c p) ≡ true
    → (if t then r else number_at d c m) ≡ (if u then r else number_at d c p) → m ≡ p
own_single d c n r m p true true one num em ep hm hp is = sym (node_same n m em) ∙ node_same n p ep
own_single d c n r m p true false one num em ep hm hp is = sym (node_same n m em) ∙ number_apart d c n r p one num hp is
own_single d c n r m p false true one num em ep hm hp is = sym (number_apart d c n r m one num hm (sym is)) ∙
    node_same n p ep
own_single d c n r m p false false one num em ep hm hp is = one m p hm hp is

single_case : (d : Effects) (c : ℕ) (n : Node) (r k : ℕ) (m p : Node) (b : Bool) → (c == k) ≡ b → HasOneEach d k
    → is_live d c ≡ true → Numbers d c n r → (if b && same_node n m then is_live d k else is_held d k m) ≡ true
    → (if b && same_node n p then is_live d k else is_held d k p) ≡ true
    → (if b && same_node n m then r else number_at d k m) ≡ (if b && same_node n p then r else number_at d k p) → m ≡ p
single_case d c n r k m p false e one live num hm hp is = one m p hm hp is
single_case d c n r k m p true e one live num hm hp is =
    let same = number_same c k e in
    let live' : is_live d k ≡ true = subst (λ v. is_live d v ≡ true) same live in
    own_single d k n r m p (same_node n m) (same_node n p) one (subst (λ v. Numbers d v n r) same num) refl refl
    (subst (λ (l : Bool). (if same_node n m then l else is_held d k m) ≡ true) live' hm)
    (subst (λ (l : Bool). (if same_node n p then l else is_held d k p) ≡ true) live' hp) is

single_gives : (d : Effects) (c : ℕ) (n : Node) (r k : ℕ) → IsBalanced d → HasOneEach d k → is_live d c ≡ true
    → Numbers d c n r → HasOneEach (Gives c n r ∷ d) k
single_gives d c n r k bal one live num m p hm hp is =
    single_case d c n r k m p (c == k) refl one live num (sym (held_gives d c n r k m bal) ∙ hm)
    (sym (held_gives d c n r k p bal) ∙ hp) (sym (number_gives d c n r k m) ∙ is ∙ number_gives d c n r k p)

-- ---- live clients

pub once_filter : (p : ℕ → Bool) (xs : List ℕ) → IsOnce xs → IsOnce (filter p xs)
once_filter p [] h = tt
once_filter p (x ∷ xs) h =
    let i = once_filter p xs h.1 in
    elim (p x) as (λ b. IsOnce (if b then x ∷ filter p xs else filter p xs))
    [ true ↦ (any_filter (λ y. y == x) p xs h.0, i) | false ↦ i ]

pub once_more : (n : ℕ) (xs : List ℕ) → list_any (λ y. y == n) xs ≡ false → IsOnce xs → IsOnce (xs ++ n ∷ [])
once_more n [] none h = (refl, tt)
once_more n (x ∷ xs) none h = (
  (list_any-append (λ y. y == x) xs (n ∷ []) ∙ or_from (list_any (λ y. y == x) xs) ((n == x) || false) h.0
      (or_from (n == x) false (other_way n x (or_parts (x == n) (list_any (λ y. y == n) xs) none).0) refl)),
  once_more n xs (or_parts (x == n) (list_any (λ y. y == n) xs) none).1 h.1,
)

pub none_live : (d : Effects) (n : ℕ) → IsNew d n → list_any (λ y. y == n) (live_clients d) ≡ false
none_live d n new = any_filter (λ y. y == n) (is_live d) (reverse (filter_map connected d)) (none_new d n new)

-- ---- effects

pub sound_opens : (d : Effects) (who : Identity) → Sound d → Sound (Opens who ∷ d)
sound_opens d who s = let balanced = balanced_lasts (Opens who) d refl s.balanced in assumption

pub sound_sets : (d : Effects) (p : Policy) → Sound d → Sound (Sets p ∷ d)
sound_sets d p s = let balanced = balanced_lasts (Sets p) d refl s.balanced in assumption

pub is_new : (d : Effects) (n : ℕ) → n ≡ next_client d → IsFresh d → IsNew d n
is_new d n is fresh = fresh n (omega (arith, is))

pub sound_connects : (d : Effects) (n : ℕ) (who : Identity) → n ≡ next_client d → Sound d → Sound (Connects n who ∷ d)
sound_connects d n who is s =
    let new = is_new d n is s.fresh in
    record {
      fresh = subst (λ v. IsFresh (Connects v who ∷ d)) (sym is) (fresh_connect d who s.fresh);
      owned = λ name t q. let lt = s.owned name t q in omega (arith, lt);
      balanced = step (Connects n who) d (λ c m. refl) s.balanced;
      single = λ c m p hm hp e. s.single c m p (sym (held_connects d n who c m new) ∙ hm)
          (sym (held_connects d n who c p new) ∙ hp) e;
      taken = s.taken;
      once = subst IsOnce (sym (list_connects d n who new)) (once_more n (live_clients d) (none_live d n new) s.once);
    }

fresh_own : (x : Effect) (d : Effects) (c : ℕ) → IsFresh d → is_live d c ≡ true → next_client (x ∷ d) ≡ next_client d
    → ((k : ℕ) → (c == k) ≡ false → names k x ≡ false) → IsFresh (x ∷ d)
fresh_own x d c fresh live same only = let lt = live_below d c fresh live in
    fresh_more x d fresh same (λ k le. only k (below c (next_client d) k lt le))

pub sound_dies : (d : Effects) (c : ℕ) → is_live d c ≡ true → Sound d → Sound (Dies c ∷ d)
sound_dies d c live s =
    let fresh = fresh_own (Dies c) d c s.fresh live refl (λ k e. e) in
    let balanced = step (Dies c) d (λ k m. refl) s.balanced in
    let single : (k : ℕ) → HasOneEach (Dies c ∷ d) k =
    λ k m p hm hp e. s.single k m p (held_dies d c k m hm) (held_dies d c k p hp) e in
    let once = subst IsOnce (sym (list_dies d c)) (once_filter (λ k. not (c == k)) (live_clients d) s.once) in
    assumption

pub sound_adds : (d : Effects) (name : List ℕ) (t : Service) → is_live d t.node.owner.0 ≡ true → Sound d
    → Sound (Adds name t ∷ d)
sound_adds d name t live s =
    let owned = add_owned d name t (live_below d t.node.owner.0 s.fresh live) s.owned in
    let balanced = step (Adds name t) d (λ k m. refl) s.balanced in assumption

pub sound_removes : (d : Effects) (name : List ℕ) → Sound d → Sound (Removes name ∷ d)
sound_removes d name s =
    let owned = owned_lasts (Removes name) d refl s.owned in
    let balanced = balanced_lasts (Removes name) d refl s.balanced in assumption

pub sound_gives : (d : Effects) (c : ℕ) (n : Node) (r : ℕ) → is_live d c ≡ true → Numbers d c n r → Sound d
    → Sound (Gives c n r ∷ d)
sound_gives d c n r live num s =
    let fresh = fresh_own (Gives c n r) d c s.fresh live refl (λ k e. e) in
    let balanced = balanced_lasts (Gives c n r) d refl s.balanced in
    let single = λ (k : ℕ). single_gives d c n r k s.balanced (s.single k) live num in assumption

pub sound_releases : (d : Effects) (c : ℕ) (n : Node) → is_live d c ≡ true → is_held d c n ≡ true → Sound d
    → Sound (Releases c n ∷ d)
sound_releases d c n live held s =
    let fresh = fresh_own (Releases c n) d c s.fresh live refl (λ k e. e) in
    let balanced = release d c n held s.balanced in
    let single : (k : ℕ) → HasOneEach (Releases c n ∷ d) k =
    λ k m p hm hp e. s.single k m p (held_releases d c n k m hm) (held_releases d c n k p hp) e in
    assumption

pub sound_watches : (d : Effects) (w : Watch) → is_live d w.client ≡ true → Sound d → Sound (Watches w ∷ d)
sound_watches d w live s =
    let fresh = fresh_own (Watches w) d w.client s.fresh live refl (λ k e. e) in
    let balanced = balanced_lasts (Watches w) d refl s.balanced in assumption

pub sound_unwatches : (d : Effects) (w : Watch) → is_live d w.client ≡ true → Sound d → Sound (Unwatches w ∷ d)
sound_unwatches d w live s =
    let fresh = fresh_own (Unwatches w) d w.client s.fresh live refl (λ k e. e) in
    let balanced = balanced_lasts (Unwatches w) d refl s.balanced in assumption

delivers_case : (t : Bool) (n : ℕ) (x : Delivery) (xs : List Delivery) → n ≤ length xs
    → n ≤ length (cons_option (let o : Option Delivery = if t then Some x else None in o) xs)
delivers_case true n x xs le = omega arith
delivers_case false n x xs le = le

pub taken_delivers : (d : Effects) (c : ℕ) (x : Delivery) → IsTakenFrom d → IsTakenFrom (Delivers c x ∷ d)
taken_delivers d c x taken k = delivers_case (c == k) (takes d k) x (deliveries d k) (taken k)

pub sound_delivers : (d : Effects) (c : ℕ) (x : Delivery) → is_live d c ≡ true → Sound d → Sound (Delivers c x ∷ d)
sound_delivers d c x live s =
    let fresh = fresh_own (Delivers c x) d c s.fresh live refl (λ k e. e) in
    let balanced = balanced_lasts (Delivers c x) d refl s.balanced in
    let taken = taken_delivers d c x s.taken in assumption

waits_case : (live : Bool) (n : ℕ) (xs : List Delivery)
    → nat_lt 0 (length (if live then drop n (reverse xs) else [])) ≡ true → (live ≡ true) × (n < length xs)
waits_case true n xs h =
    let a = length-drop n (reverse xs) in let b = length-reverse xs in
    let c : 0 < length (drop n (reverse xs)) = grind (arith, nat_tests) in
    (refl, omega (arith, a, b, c))
waits_case false n xs h = absurd (true≢false (sym h))

-- Something waits for c.
abbrev pub Waits : Effects → ℕ → Type 0
Waits d c = nat_lt 0 (length (inbox_at d c)) ≡ true

takes_case : (t : Bool) (n n' m : ℕ) → n' ≡ cond t 1 0 + n → n ≤ m → (t ≡ true → n < m) → n' ≤ m
takes_case true n n' m e le lt = let l = lt refl in omega (arith, e, l)
takes_case false n n' m e le lt = omega (arith, e, le)

pub taken_takes : (d : Effects) (c : ℕ) → Waits d c → IsTakenFrom d → IsTakenFrom (Takes c ∷ d)
taken_takes d c waits taken k =
    let w = waits_case (is_live d c) (takes d c) (deliveries d c) waits in
    takes_case (c == k) (takes d k) (takes (Takes c ∷ d) k) (length (deliveries d k))
    (sum_by-cons (λ (y : Effect). cond (is_take_of k y) 1 0) (Takes c) d) (taken k)
    (λ e. subst (λ v. takes d v < length (deliveries d v)) (number_same c k e) w.1)

pub sound_takes : (d : Effects) (c : ℕ) → Waits d c → Sound d → Sound (Takes c ∷ d)
sound_takes d c waits s =
    let w = waits_case (is_live d c) (takes d c) (deliveries d c) waits in
    let fresh = fresh_own (Takes c) d c s.fresh w.0 refl (λ k e. e) in
    let balanced = balanced_lasts (Takes c) d refl s.balanced in
    let taken = taken_takes d c waits s.taken in assumption
