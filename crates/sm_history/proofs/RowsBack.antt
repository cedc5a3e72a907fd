-- The rows of effects leave what the effects left.
use Rattle.std.proofs.Common.{◌≡◌, ℕ, zero, suc, ◌+◌, ◌-◌, ◌≤◌, ◌<◌, Bool, true, false, ◌||◌, ◌&&◌, ◌==◌, List, []}
use Rattle.std.proofs.Common.{◌∷◌, ◌++◌, refl, ap, sym, ◌∙◌, map, drop, Option, Some, None, if◌then◌else◌, arith}
use Rattle.std.specs.Prelude.{nat_lt, not, filter, filter_map, reverse, is_some, option_map, max}
use Rattle.std.specs.List.{list_any, flat_map, sum_by, cons_option, range_with_len}
use Rattle.std.proofs.lemmas.Bool.Decides.{nat_tests}
use Rattle.std.proofs.lemmas.Bool.{true≢false, and_parts}
use Rattle.std.proofs.lemmas.List.{reverse-reverse, append-nil}
use Rattle.std.proofs.lemmas.List.Sums.{sum_by-cons, sum_by-append}
use Rattle.std.proofs.lemmas.List.Elements.{filter_map-append, filter_agree}
use Rattle.sm_values.specs.declared.number.Node.{Node}
use Rattle.sm_history.specs.declared.delivery.Delivery.{Delivery}
use Rattle.sm_history.specs.Effects.{Effects, Service, Watch, Opens, Sets, same_node}
use Rattle.sm_history.specs.Clients.{policy_at, manager_at, is_live, live_clients, identity_at, connected}
use Rattle.sm_history.specs.Clients.{is_connect_of, is_death_of}
use Rattle.sm_history.specs.Holdings.{refs_at, is_held, number_at, node_at, held_nodes}
use Rattle.sm_history.specs.Services.{service_at, last_said, if_owner_lives, current_names, watches_made, watches_at}
use Rattle.sm_history.specs.Inboxes.{inbox_at}
use Rattle.sm_history.specs.Agreeing.{Agree}
use Rattle.sm_history.specs.Rows.{LiveRow, HeldRow, live_row, greatest, top_number, held_under, held_row, held_rows}
use Rattle.sm_history.specs.Rows.{waiting_rows, rows_at, put_live, live_put, names_put, held_put, watches_put, resumed}
use Rattle.sm_history.proofs.Balanced.{number_same, node_same}
use Rattle.sm_history.proofs.Grants.{same_self}
use Rattle.sm_history.proofs.Rising.{in_current}
use Rattle.sm_history.proofs.HeldAlike.{node_held, node_not_held, held_among}
use Rattle.sm_history.proofs.AfterClients.{filter_both}
use Rattle.sm_history.proofs.PutRows.{quiet, past_rows, untouched, past_waiting, past_watches, past_held, past_names}
use Rattle.sm_history.proofs.PutRows.{AllOf, IfSomeOf, all_each, all_flat, all_filter_map, connects_put, connected_put}
use Rattle.sm_history.proofs.PutRows.{among, identity_put, said_put, watches_made_put, for_client, deliveries_put}
use Rattle.sm_history.proofs.PutRows.{for_one, weight, granted_put, HasNumber, number_put}
use Rattle.sm_history.specs.Sound.{HasOneEach, IsOnce, Sound, deliveries, granted, released, takes}
use Rattle.sm_history.proofs.Living.{any_live}
use Rattle.std.proofs.Math.Bool.{or-false, and-true, and_self}

-- ---- live clients

any_rows : (d : Effects) (c : ℕ) (ks : List ℕ)
    → list_any (λ (x : LiveRow). x.client == c) (map (live_row d) ks) ≡ among c ks
any_rows d c [] = refl
any_rows d c (k ∷ ks) = ap (λ b. (k == c) || b) (any_rows d c ks)

connect_back : (d : Effects) (c : ℕ) → list_any (is_connect_of c) (resumed (rows_at d)) ≡ is_live d c
connect_back d c =
    let r = rows_at d in
    let F = λ (b : Effects). list_any (is_connect_of c) b in
    past_rows F r (λ k x b. refl) (λ w b. refl) (λ k n j b. refl) (λ n s b. refl)
    ∙ connects_put c r.live (Sets r.policy ∷ Opens r.manager ∷ [])
    ∙ or-false (list_any (λ (x : LiveRow). x.client == c) r.live)
    ∙ any_rows d c (live_clients d) ∙ any_live d c

death_back : (d : Effects) (c : ℕ) → list_any (is_death_of c) (resumed (rows_at d)) ≡ false
death_back d c =
    untouched (λ (b : Effects). list_any (is_death_of c) b) (rows_at d) (λ k x b. refl) (λ w b. refl) (λ k n j b. refl)
    (λ n s b. refl)
    (λ x b. refl)

pub live_back : (d : Effects) (c : ℕ) → is_live (resumed (rows_at d)) c ≡ is_live d c
live_back d c =
    ap (λ b. b && not (list_any (is_death_of c) (resumed (rows_at d)))) (connect_back d c)
    ∙ ap (λ b. is_live d c && not b) (death_back d c)
    ∙ and-true (is_live d c)

ids_back : (d : Effects) (ks : List ℕ) → map (λ (x : LiveRow). x.client) (map (live_row d) ks) ≡ ks
ids_back d [] = refl
ids_back d (k ∷ ks) = ap (λ l. k ∷ l) (ids_back d ks)

filter_again : {X : Type 0} (p : X → Bool) (xs : List X) → filter p (filter p xs) ≡ filter p xs
filter_again p xs = sym (filter_both p p p xs (λ x. sym (and_self (p x))))

pub list_back : (d : Effects) → live_clients (resumed (rows_at d)) ≡ live_clients d
list_back d =
    let r = rows_at d in
    let ks = live_clients d in
    let F = λ (b : Effects). filter_map connected b in
    let ids = map (λ (x : LiveRow). x.client) r.live in
    ap (λ xs. filter (is_live (resumed r)) (reverse xs))
    (past_rows F r (λ k x b. refl) (λ w b. refl) (λ k n j b. refl) (λ n s b. refl)
    ∙ connected_put r.live (Sets r.policy ∷ Opens r.manager ∷ []) ∙ append-nil (reverse ids))
    ∙ ap (filter (is_live (resumed r))) (reverse-reverse ids ∙ ids_back d ks)
    ∙ filter_agree (is_live (resumed r)) (is_live d) (λ c. live_back d c) ks
    ∙ filter_again (is_live d) (reverse (filter_map connected d))

pub who_back : (d : Effects) (c : ℕ) → is_live d c ≡ true → identity_at d c ≡ identity_at (resumed (rows_at d)) c
who_back d c live =
    let r = rows_at d in
    let F = λ (b : Effects). identity_at b c in
    sym (past_rows F r (λ k x b. refl) (λ w b. refl) (λ k n j b. refl) (λ n s b. refl)
    ∙ identity_put d c (live_clients d) (Sets r.policy ∷ Opens r.manager ∷ [])
    ∙ rw (any_live d c ∙ live) refl)

-- ---- holdings

other_case : (c : ℕ) (n : Node) (k : ℕ) (d : Effects) (r : ℕ) (o : Option Node) (xs : List HeldRow) → (k == c) ≡ false
    → sum_by (weight c n) xs ≡ 0 → sum_by (weight c n) (cons_option (option_map (held_row d k r) o) xs) ≡ 0
other_case c n k d r None xs e z = z
other_case c n k d r (Some m) xs e z =
    let s = sum_by-cons (weight c n) (held_row d k r m) xs in
    let w : weight c n (held_row d k r m) ≡ 0 = rw e refl in
    omega (arith, s, w, z)

other_weight : (c : ℕ) (n : Node) (k : ℕ) (d : Effects) (rs : List ℕ) → (k == c) ≡ false
    → sum_by (weight c n) (filter_map (held_under d k) rs) ≡ 0
other_weight c n k d [] e = refl
other_weight c n k d (r ∷ rs) e = other_case c n k d r (node_at d k r) (filter_map (held_under d k) rs) e
    (other_weight c n k d rs e)

flat_case : (c : ℕ) (n : Node) (d : Effects) (k : ℕ) (t any : Bool) (here rest : ℕ) → (k == c) ≡ t
    → (t ≡ true → any ≡ false) → here ≡ sum_by (weight c n) (held_rows d k)
    → rest ≡ (if any then sum_by (weight c n) (held_rows d c) else 0)
    → here + rest ≡ (if t || any then sum_by (weight c n) (held_rows d c) else 0)
flat_case c n d k true any here rest e once h r =
    let a = once refl in
    let z : rest ≡ 0 = r ∙ rw a refl in
    let s : here ≡ sum_by (weight c n) (held_rows d c) = h ∙
    ap (λ j. sum_by (weight c n) (held_rows d j)) (number_same k c e) in
    omega (arith, z, s)
flat_case c n d k false any here rest e once h r =
    let z : here ≡ 0 = h ∙ other_weight c n k d (range_with_len 0 (top_number d k + 1)) e in
    let s : here + rest ≡ rest = omega (arith, z) in
    s ∙ r

sum_flat : (c : ℕ) (n : Node) (d : Effects) (ks : List ℕ) → IsOnce ks
    → sum_by (weight c n) (flat_map (held_rows d) ks) ≡ (if among c ks then sum_by (weight c n) (held_rows d c) else 0)
sum_flat c n d [] once = refl
sum_flat c n d (k ∷ ks) once =
    sum_by-append (weight c n) (held_rows d k) (flat_map (held_rows d) ks)
    ∙ flat_case c n d k (k == c) (among c ks) (sum_by (weight c n) (held_rows d k))
    (sum_by (weight c n) (flat_map (held_rows d) ks)) refl
    (λ e. ap (λ j. among j ks) (sym (number_same k c e)) ∙ once.0) refl (sum_flat c n d ks once.1)

abbrev at_number : Bool → ℕ → ℕ → ℕ → ℕ
at_number held a v r = if held && (a == r) then v else 0

under_case : (d : Effects) (c : ℕ) (n : Node) (r : ℕ) (o : Option Node) (xs : List HeldRow) (z : ℕ) → HasOneEach d c
    → node_at d c r ≡ o → sum_by (weight c n) xs ≡ z
    → sum_by (weight c n) (cons_option (option_map (held_row d c r) o) xs)
    ≡ at_number (is_held d c n) (number_at d c n) (refs_at d c n) r + z
under_case d c n r None xs z one e h =
    let none : at_number (is_held d c n) (number_at d c n) (refs_at d c n) r ≡ 0 =
    elim (is_held d c n) as (λ b. is_held d c n ≡ b → at_number b (number_at d c n) (refs_at d c n) r ≡ 0) [
      | true ↦ λ held. rw (node_not_held d c r n e held) refl
      | false ↦ λ held. refl
    ] refl in
    omega (arith, none, h)
under_case d c n r (Some m) xs z one e h =
    let s = sum_by-cons (weight c n) (held_row d c r m) xs in
    let self : (c == c) ≡ true = grind (arith, nat_tests) in
    let f = node_held d c r m e in
    let w : weight c n (held_row d c r m) ≡ at_number (is_held d c n) (number_at d c n) (refs_at d c n) r =
    rw self (elim (same_node m n) as (λ b. same_node m n ≡ b →
    (if b then refs_at d c m else 0) ≡ at_number (is_held d c n) (number_at d c n) (refs_at d c n) r) [
      | true ↦ λ t.
          let same = node_same m n t in
          let held : is_held d c n ≡ true = ap (is_held d c) (sym same) ∙ f.0 in
          let at : (number_at d c n == r) ≡ true = let q : number_at d c n ≡ r = ap (number_at d c) (sym same) ∙
          f.1 in grind (arith, nat_tests) in
          rw (held, at) (ap (refs_at d c) same)
      | false ↦ λ t. elim (is_held d c n) as (λ b. is_held d c n ≡ b →
          0 ≡ at_number b (number_at d c n) (refs_at d c n) r) [
            | true ↦ λ held. elim (number_at d c n == r) as (λ b. (number_at d c n == r) ≡ b →
                0 ≡ (if b then refs_at d c n else 0)) [
                  | true ↦ λ at.
                      let same : m ≡ n = one m n f.0 held (f.1 ∙ sym (number_same (number_at d c n) r at)) in
                      absurd (true≢false (sym (ap (same_node m) (sym same) ∙ same_self m) ∙ t))
                  | false ↦ λ at. refl
                ] refl
            | false ↦ λ held. refl
          ] refl
    ] refl) in
    omega (arith, s, w, h)

sum_under : (d : Effects) (c : ℕ) (n : Node) (rs : List ℕ) → HasOneEach d c
    → sum_by (weight c n) (filter_map (held_under d c) rs)
    ≡ sum_by (at_number (is_held d c n) (number_at d c n) (refs_at d c n)) rs
sum_under d c n [] one = refl
sum_under d c n (r ∷ rs) one =
    under_case d c n r (node_at d c r) (filter_map (held_under d c) rs)
    (sum_by (at_number (is_held d c n) (number_at d c n) (refs_at d c n)) rs) one refl (sum_under d c n rs one)
    ∙ sym (sum_by-cons (at_number (is_held d c n) (number_at d c n) (refs_at d c n)) r rs)

none_sum : (a v : ℕ) (rs : List ℕ) → sum_by (at_number false a v) rs ≡ 0
none_sum a v [] = refl
none_sum a v (r ∷ rs) = let s = sum_by-cons (at_number false a v) r rs in let i = none_sum a v rs in omega (arith, s, i)

past_sum : (a v b k : ℕ) → a < b → sum_by (at_number true a v) (range_with_len b k) ≡ 0
past_sum a v b zero lt = refl
past_sum a v b (suc k) lt =
    let s = sum_by-cons (at_number true a v) b (range_with_len (b + 1) k) in
    let i = past_sum a v (b + 1) k (omega arith) in
    let other : (a == b) ≡ false = grind (arith, nat_tests) in
    let z : at_number true a v b ≡ 0 = rw other refl in
    omega (arith, s, i, z)

at_sum : (a v b k : ℕ) → b ≤ a → a < b + k → sum_by (at_number true a v) (range_with_len b k) ≡ v
at_sum a v b zero le lt = absurd (omega arith)
at_sum a v b (suc k) le lt =
    let s = sum_by-cons (at_number true a v) b (range_with_len (b + 1) k) in
    elim (a == b) as (λ t. (a == b) ≡ t → sum_by (at_number true a v) (range_with_len b (suc k)) ≡ v) [
      | true ↦ λ e.
          let same = number_same a b e in
          let z : at_number true a v b ≡ v = rw e refl in
          let i = past_sum a v (b + 1) k (omega (arith, same)) in
          omega (arith, s, i, z)
      | false ↦ λ e.
          let z : at_number true a v b ≡ 0 = rw e refl in
          let more : b < a = grind (arith, nat_tests) in
          let i = at_sum a v (b + 1) k (omega (arith, more)) (omega (arith, lt)) in
          omega (arith, s, i, z)
    ] refl

pub below_top : (f : Node → ℕ) (ns : List Node) (n : Node) → list_any (same_node n) ns ≡ true
    → f n ≤ greatest (map f ns)
below_top f [] n h = absurd (true≢false (sym h))
below_top f (m ∷ ns) n h =
    elim (same_node n m) as (λ b. same_node n m ≡ b → (b || list_any (same_node n) ns) ≡ true →
    f n ≤ max (f m) (greatest (map f ns))) [
      | true ↦ λ e i. let same = ap f (node_same n m e) in omega (arith, same)
      | false ↦ λ e i. let j = below_top f ns n i in omega (arith, j)
    ] refl h

own_sum : (d : Effects) (c : ℕ) (n : Node) → HasOneEach d c → sum_by (weight c n) (held_rows d c) ≡ refs_at d c n
own_sum d c n one =
    let v = refs_at d c n in
    let a = number_at d c n in
    let rs = range_with_len 0 (top_number d c + 1) in
    sum_under d c n rs one
    ∙ elim (is_held d c n) as (λ b. is_held d c n ≡ b → sum_by (at_number b a v) rs ≡ v) [
      | true ↦ λ e. let le = below_top (number_at d c) (held_nodes d c) n (held_among d c n e) in
          at_sum a v 0 (top_number d c + 1) (omega arith) (omega (arith, le))
      | false ↦ λ e. none_sum a v rs ∙ (let z : 0 ≡ v = grind (arith, nat_tests) in z)
    ] refl

weight_all : (d : Effects) (c : ℕ) (n : Node) → Sound d → is_live d c ≡ true
    → sum_by (weight c n) (rows_at d).held ≡ refs_at d c n
weight_all d c n s live = sum_flat c n d (live_clients d) s.once ∙ rw (any_live d c ∙ live) (own_sum d c n (s.single c))

granted_back : (d : Effects) (c : ℕ) (n : Node)
    → granted (resumed (rows_at d)) c n ≡ sum_by (weight c n) (rows_at d).held
granted_back d c n =
    let r = rows_at d in
    let F = λ (b : Effects). granted b c n in
    let none : granted (names_put r) c n ≡ 0 = past_names F r (λ x s b. refl) ∙
    quiet F put_live (λ x b. refl) r.live (Sets r.policy ∷ Opens r.manager ∷ []) in
    let g = granted_put c n r.held (names_put r) in
    past_waiting F r (λ k x b. refl) ∙ past_watches F r (λ w b. refl) ∙ (omega (arith, g, none))

pub released_back : (d : Effects) (c : ℕ) (n : Node) → released (resumed (rows_at d)) c n ≡ 0
released_back d c n =
    untouched (λ (b : Effects). released b c n) (rows_at d) (λ k x b. refl) (λ w b. refl) (λ k m j b. refl)
    (λ x s b. refl)
    (λ x b. refl)

refs_case : (live live' : Bool) (v g s : ℕ) → live' ≡ live → s ≡ 0 → (live ≡ true → g ≡ v) → (live ≡ false → v ≡ 0)
    → v ≡ (if live' then g - s else 0)
refs_case true live' v g s e z is none = let q = is refl in rw e (omega (arith, q, z))
refs_case false live' v g s e z is none = rw e (none refl)

pub refs_back : (d : Effects) (c : ℕ) (n : Node) → Sound d → refs_at d c n ≡ refs_at (resumed (rows_at d)) c n
refs_back d c n s =
    refs_case (is_live d c) (is_live (resumed (rows_at d)) c) (refs_at d c n) (granted (resumed (rows_at d)) c n)
    (released (resumed (rows_at d)) c n)
    (live_back d c) (released_back d c n) (λ live. granted_back d c n ∙ weight_all d c n s live) (λ e. rw e refl)

held_number : (d : Effects) (c : ℕ) (n : Node) (k r : ℕ) (o : Option Node) → node_at d k r ≡ o
    → IfSomeOf (HasNumber c n (number_at d c n)) (option_map (held_row d k r) o)
held_number d c n k r None e = tt
held_number d c n k r (Some m) e = λ h.
    let f = node_held d k r m e in
    sym f.1 ∙ ap (λ j. number_at d j m) (number_same k c (and_parts (k == c) (same_node m n) h).0) ∙
    ap (number_at d c) (node_same m n (and_parts (k == c) (same_node m n) h).1)

pub held_live : (live : Bool) (v : ℕ) → nat_lt 0 (if live then v else 0) ≡ true → live ≡ true
held_live true v h = refl
held_live false v h = absurd (true≢false (sym h))

number_back : (d : Effects) (c : ℕ) (n : Node) → Sound d → is_held d c n ≡ true
    → number_at d c n ≡ number_at (resumed (rows_at d)) c n
number_back d c n s held =
    let r = rows_at d in
    let F = λ (b : Effects). number_at b c n in
    let v = number_at d c n in
    let all = all_flat (HasNumber c n v) (held_rows d) (live_clients d)
    (all_each (λ k. AllOf (HasNumber c n v) (held_rows d k)) (live_clients d)
    (λ k. all_filter_map (HasNumber c n v) (held_under d k) (range_with_len 0 (top_number d k + 1))
    (λ x. held_number d c n k x (node_at d k x) refl))) in
    let some : nat_lt 0 (sum_by (weight c n) r.held) ≡ true =
    ap (nat_lt 0) (weight_all d c n s (held_live (is_live d c) _ held)) ∙ held in
    sym (past_waiting F r (λ k x b. refl) ∙ past_watches F r (λ w b. refl) ∙
    number_put c n v r.held (names_put r) all ∙ rw some refl)

-- ---- names

owner_again : (d e : Effects) (o : Option Service) → ((c : ℕ) → is_live e c ≡ is_live d c)
    → if_owner_lives e (if_owner_lives d o) ≡ if_owner_lives d o
owner_again d e None same = refl
owner_again d e (Some s) same =
    elim (is_live d s.node.owner.0) as (λ b. is_live d s.node.owner.0 ≡ b →
    if_owner_lives e (if b then Some s else None) ≡ (if b then Some s else None)) [
      | true ↦ λ h. rw (same s.node.owner.0 ∙ h) refl
      | false ↦ λ h. refl
    ] refl

said_is : (o : Option Service) → (if is_some o && is_some o then o else None) ≡ o
said_is None = refl
said_is (Some s) = refl

pub said_back : (d : Effects) (name : List ℕ) → last_said (resumed (rows_at d)) name ≡ service_at d name
said_back d name =
    let r = rows_at d in
    let F = λ (b : Effects). last_said b name in
    let o = service_at d name in
    past_waiting F r (λ k x b. refl) ∙ past_watches F r (λ w b. refl) ∙ past_held F r (λ k m j b. refl)
    ∙ said_put d name (current_names d) (live_put r)
    ∙ ap (λ (b : Bool). let v : Option Service = if b && is_some o then o else last_said (live_put r) name in v)
    (in_current d name)
    ∙ ap (λ (z : Option Service). let v : Option Service = if is_some o && is_some o then o else z in v)
    (quiet F put_live (λ x b. refl) r.live (Sets r.policy ∷ Opens r.manager ∷ []))
    ∙ said_is o

service_back : (d : Effects) (name : List ℕ) → service_at d name ≡ service_at (resumed (rows_at d)) name
service_back d name = sym (ap (if_owner_lives (resumed (rows_at d))) (said_back d name) ∙
    owner_again d (resumed (rows_at d)) (last_said d name) (λ c. live_back d c))

-- ---- watches and inboxes

watches_back : (d : Effects) → watches_at d ≡ watches_at (resumed (rows_at d))
watches_back d =
    let r = rows_at d in
    let F = watches_made in
    let none : watches_made (held_put r) ≡ [] = past_held F r (λ k m j b. refl) ∙ past_names F r (λ x s b. refl) ∙
    quiet F put_live (λ x b. refl) r.live (Sets r.policy ∷ Opens r.manager ∷ []) in
    let made : watches_made (resumed r) ≡ watches_at d = past_waiting F r (λ k x b. refl) ∙
    watches_made_put r.watches (held_put r) ∙ ap (λ ws. ws ++ watches_at d) none in
    sym (ap (filter (λ (w : Watch). is_live (resumed r) w.client)) made
    ∙ filter_agree (λ (w : Watch). is_live (resumed r) w.client) (λ w. is_live d w.client) (λ w. live_back d w.client)
    (watches_at d)
    ∙ filter_again (λ (w : Watch). is_live d w.client) (watches_made d))

waits_case : (c k : ℕ) (d : Effects) (t any : Bool) (rest : List Delivery) → (k == c) ≡ t → (t ≡ true → any ≡ false)
    → rest ≡ (if any then inbox_at d c else [])
    → (if t then inbox_at d k else []) ++ rest ≡ (if t || any then inbox_at d c else [])
waits_case c k d true any rest e once h = let a = once refl in ap (λ xs. inbox_at d k ++ xs) (h ∙ rw a refl) ∙
    append-nil (inbox_at d k) ∙ ap (inbox_at d) (number_same k c e)
waits_case c k d false any rest e once h = h

waits_flat : (c : ℕ) (d : Effects) (ks : List ℕ) → IsOnce ks
    → filter_map (for_client c) (flat_map (waiting_rows d) ks) ≡ (if among c ks then inbox_at d c else [])
waits_flat c d [] once = refl
waits_flat c d (k ∷ ks) once =
    filter_map-append (for_client c) (waiting_rows d k) (flat_map (waiting_rows d) ks)
    ∙ ap (λ xs. xs ++ filter_map (for_client c) (flat_map (waiting_rows d) ks)) (for_one c k (inbox_at d k))
    ∙ waits_case c k d (k == c) (among c ks) (filter_map (for_client c) (flat_map (waiting_rows d) ks)) refl
    (λ e. ap (λ j. among j ks) (sym (number_same k c e)) ∙ once.0) (waits_flat c d ks once.1)

pub takes_back : (d : Effects) (c : ℕ) → takes (resumed (rows_at d)) c ≡ 0
takes_back d c =
    untouched (λ (b : Effects). takes b c) (rows_at d) (λ k x b. refl) (λ w b. refl) (λ k m j b. refl) (λ x s b. refl)
    (λ x b. refl)

deliveries_back : (d : Effects) (c : ℕ)
    → reverse (deliveries (resumed (rows_at d)) c) ≡ filter_map (for_client c) (rows_at d).waiting
deliveries_back d c =
    let r = rows_at d in
    let F = λ (b : Effects). deliveries b c in
    let xs = filter_map (for_client c) r.waiting in
    let none : deliveries (watches_put r) c ≡ [] = past_watches F r (λ w b. refl) ∙ past_held F r (λ k m j b. refl) ∙
    past_names F r (λ x s b. refl) ∙ quiet F put_live (λ x b. refl) r.live (Sets r.policy ∷ Opens r.manager ∷ []) in
    ap (λ (ys : List Delivery). reverse ys) (deliveries_put c r.waiting (watches_put r) ∙
    ap (λ ys. reverse xs ++ ys) none ∙ append-nil (reverse xs)) ∙ reverse-reverse xs

inbox_case : (live live' : Bool) (v ys : List Delivery) (t : ℕ) → live' ≡ live → t ≡ 0 → ys ≡ (if live then v else [])
    → (live ≡ false → v ≡ []) → v ≡ (if live' then drop t ys else [])
inbox_case true live' v ys t e z is none = rw (e, z, is) refl
inbox_case false live' v ys t e z is none = rw e (none refl)

inbox_back : (d : Effects) (c : ℕ) → Sound d → inbox_at d c ≡ inbox_at (resumed (rows_at d)) c
inbox_back d c s =
    inbox_case (is_live d c) (is_live (resumed (rows_at d)) c) (inbox_at d c)
    (reverse (deliveries (resumed (rows_at d)) c)) (takes (resumed (rows_at d)) c) (live_back d c) (takes_back d c)
    (deliveries_back d c ∙ waits_flat c d (live_clients d) s.once ∙
    ap (λ (b : Bool). let v : List Delivery = if b then inbox_at d c else [] in v) (any_live d c))
    (λ e. rw e refl)

-- ---- all of them

pub policy_back : (d : Effects) → policy_at d ≡ policy_at (resumed (rows_at d))
policy_back d =
    sym (untouched policy_at (rows_at d) (λ k x b. refl) (λ w b. refl) (λ k m j b. refl) (λ x s b. refl)
    (λ x b. refl))

pub manager_back : (d : Effects) → manager_at d ≡ manager_at (resumed (rows_at d))
manager_back d =
    sym (untouched manager_at (rows_at d) (λ k x b. refl) (λ w b. refl) (λ k m j b. refl) (λ x s b. refl)
    (λ x b. refl))

pub agree_rows : (d : Effects) → Sound d → Agree d (resumed (rows_at d))
agree_rows d s = record {
  policy = policy_back d;
  version = refl;
  manager = manager_back d;
  clients = refl;
  lives = λ c. sym (live_back d c);
  live_list = sym (list_back d);
  who = λ c live. who_back d c live;
  refs = λ c n. refs_back d c n s;
  numbers = λ c n held. number_back d c n s held;
  services = λ name. service_back d name;
  watches = watches_back d;
  inboxes = λ c. inbox_back d c s;
}
