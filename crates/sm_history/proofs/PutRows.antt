-- What rows leave in each table when they are put onto effects.
use Rattle.std.proofs.Common.{◌≡◌, ℕ, zero, suc, ◌+◌, Bool, true, false, ◌||◌, ◌&&◌, ◌==◌, List, [], ◌∷◌, ◌++◌, refl}
use Rattle.std.proofs.Common.{ap, sym, ◌∙◌, map, Option, Some, None, if◌then◌else◌, arith}
use Rattle.std.specs.Prelude.{nat_lt, filter_map, reverse, bytes_eq, is_some, unwrap_or, cond, option_map}
use Rattle.std.specs.List.{list_any, flat_map, sum_by, cons_option}
use Rattle.std.proofs.lemmas.Bool.Decides.{nat_tests}
use Rattle.std.proofs.lemmas.List.{reverse-append, append_assoc, append-nil}
use Rattle.std.proofs.lemmas.List.Sums.{sum_by-cons}
use Rattle.sm_values.specs.declared.number.Node.{Node}
use Rattle.sm_values.specs.declared.identity.Identity.{Identity}
use Rattle.sm_history.specs.declared.delivery.Delivery.{Delivery}
use Rattle.sm_history.specs.Effects.{Effect, Effects, Service, Watch, Opens, Sets, Adds, Gives, Watches}
use Rattle.sm_history.specs.Effects.{Delivers, same_node}
use Rattle.sm_history.specs.Clients.{identity_at, connected, is_connect_of}
use Rattle.sm_history.specs.Holdings.{number_at, number_given}
use Rattle.sm_history.specs.Services.{service_at, last_said, said_or, Here, Silent, watches_made}
use Rattle.sm_history.specs.Rows.{Rows, LiveRow, HeldRow, WaitingRow, live_row, named_under, named_row, waiting_row}
use Rattle.sm_history.specs.Rows.{put_all, times, put_live, put_named, put_held, put_watch, put_waiting, live_put}
use Rattle.sm_history.specs.Rows.{names_put, held_put, watches_put, waiting_put}
use Rattle.sm_history.proofs.Balanced.{number_same}
use Rattle.sm_history.proofs.Rising.{same_bytes, is_in}
use Rattle.sm_history.specs.Sound.{deliveries, granted}

-- ---- what they leave alone

pub quiet : {X T : Type 0} (F : Effects → T) (put : X → Effects → Effects)
    → ((x : X) (d : Effects) → F (put x d) ≡ F d) → (xs : List X) (d : Effects) → F (put_all put xs d) ≡ F d
quiet F put same [] d = refl
quiet F put same (x ∷ xs) d = quiet F put same xs (put x d) ∙ same x d

quiet_times : {T : Type 0} (F : Effects → T) (x : Effect) → ((d : Effects) → F (x ∷ d) ≡ F d) → (n : ℕ) (d : Effects)
    → F (times n x d) ≡ F d
quiet_times F x same zero d = refl
quiet_times F x same (suc n) d = same (times n x d) ∙ quiet_times F x same n d

pub past_waiting : {T : Type 0} (F : Effects → T) (r : Rows)
    → ((c : ℕ) (x : Delivery) (d : Effects) → F (Delivers c x ∷ d) ≡ F d) → F (waiting_put r) ≡ F (watches_put r)
past_waiting F r same = quiet F put_waiting (λ x d. same x.client x.delivery d) r.waiting (watches_put r)

pub past_watches : {T : Type 0} (F : Effects → T) (r : Rows) → ((w : Watch) (d : Effects) → F (Watches w ∷ d) ≡ F d)
    → F (watches_put r) ≡ F (held_put r)
past_watches F r same = quiet F put_watch same r.watches (held_put r)

pub past_held : {T : Type 0} (F : Effects → T) (r : Rows)
    → ((c : ℕ) (n : Node) (k : ℕ) (d : Effects) → F (Gives c n k ∷ d) ≡ F d) → F (held_put r) ≡ F (names_put r)
past_held F r same = quiet F put_held
    (λ x d. quiet_times F (Gives x.client x.node x.number) (same x.client x.node x.number) x.count d) r.held
    (names_put r)

pub past_names : {T : Type 0} (F : Effects → T) (r : Rows)
    → ((name : List ℕ) (s : Service) (d : Effects) → F (Adds name s ∷ d) ≡ F d) → F (names_put r) ≡ F (live_put r)
past_names F r same = quiet F put_named (λ x d. same x.name x.service d) r.names (live_put r)

-- A value that no effect of the rows behind those of clients changes, and one that those of clients don't change, too.
module _ {T : Type 0} (F : Effects → T) (r : Rows)
    (waiting : (c : ℕ) (x : Delivery) (d : Effects) → F (Delivers c x ∷ d) ≡ F d)
    (watches : (w : Watch) (d : Effects) → F (Watches w ∷ d) ≡ F d)
    (held : (c : ℕ) (n : Node) (k : ℕ) (d : Effects) → F (Gives c n k ∷ d) ≡ F d)
    (names : (name : List ℕ) (s : Service) (d : Effects) → F (Adds name s ∷ d) ≡ F d) where
  pub past_rows : F (waiting_put r) ≡ F (live_put r)
  past_rows = past_waiting F r waiting ∙ past_watches F r watches ∙ past_held F r held ∙ past_names F r names

  pub untouched : ((x : LiveRow) (d : Effects) → F (put_live x d) ≡ F d)
      → F (waiting_put r) ≡ F (Sets r.policy ∷ Opens r.manager ∷ [])
  untouched live = past_rows ∙ quiet F put_live live r.live (Sets r.policy ∷ Opens r.manager ∷ [])

-- ---- lists of which each element has a property

abbrev pub AllOf : {X : Type 0} → (X → Type 0) → List X → Type 0
AllOf Q [] = Unit {0}
AllOf Q (x ∷ xs) = Q x × AllOf Q xs

pub all_each : {X : Type 0} (Q : X → Type 0) (xs : List X) → ((x : X) → Q x) → AllOf Q xs
all_each Q [] h = tt
all_each Q (x ∷ xs) h = (h x, all_each Q xs h)

pub all_append : {X : Type 0} (Q : X → Type 0) (xs ys : List X) → AllOf Q xs → AllOf Q ys → AllOf Q (xs ++ ys)
all_append Q [] ys h k = k
all_append Q (x ∷ xs) ys h k = (h.0, all_append Q xs ys h.1 k)

pub all_map : {A X : Type 0} (Q : X → Type 0) (f : A → X) (xs : List A) → AllOf (λ a. Q (f a)) xs → AllOf Q (map f xs)
all_map Q f [] h = tt
all_map Q f (x ∷ xs) h = (h.0, all_map Q f xs h.1)

pub all_flat : {A X : Type 0} (Q : X → Type 0) (f : A → List X) (xs : List A) → AllOf (λ a. AllOf Q (f a)) xs
    → AllOf Q (flat_map f xs)
all_flat Q f [] h = tt
all_flat Q f (x ∷ xs) h = all_append Q (f x) (flat_map f xs) h.0 (all_flat Q f xs h.1)

-- A property of what an option has.
abbrev pub IfSomeOf : {X : Type 0} → (X → Type 0) → Option X → Type 0
IfSomeOf Q None = Unit {0}
IfSomeOf Q (Some x) = Q x

all_option : {X : Type 0} (Q : X → Type 0) (o : Option X) (xs : List X) → IfSomeOf Q o → AllOf Q xs
    → AllOf Q (cons_option o xs)
all_option Q None xs h k = k
all_option Q (Some x) xs h k = (h, k)

pub all_filter_map : {A X : Type 0} (Q : X → Type 0) (f : A → Option X) (xs : List A) → ((a : A) → IfSomeOf Q (f a))
    → AllOf Q (filter_map f xs)
all_filter_map Q f [] h = tt
all_filter_map Q f (x ∷ xs) h = all_option Q (f x) (filter_map f xs) (h x) (all_filter_map Q f xs h)

-- What each element's effects keep.
pub kept_all : {X : Type 0} (P : Effects → Type 0) (Q : X → Type 0) (put : X → Effects → Effects)
    → ((x : X) (d : Effects) → Q x → P d → P (put x d)) → (xs : List X) (d : Effects) → AllOf Q xs → P d
    → P (put_all put xs d)
kept_all P Q put keeps [] d all h = h
kept_all P Q put keeps (x ∷ xs) d all h = kept_all P Q put keeps xs (put x d) all.1 (keeps x d all.0 h)

pub kept_times : (P : Effects → Type 0) (x : Effect) → ((d : Effects) → P d → P (x ∷ d)) → (n : ℕ) (d : Effects) → P d
    → P (times n x d)
kept_times P x keeps zero d h = h
kept_times P x keeps (suc n) d h = keeps (times n x d) (kept_times P x keeps n d h)

-- ---- clients

or_turn : (a b c : Bool) → (a || (b || c)) ≡ ((b || a) || c)
or_turn true true c = refl
or_turn true false c = refl
or_turn false true c = refl
or_turn false false c = refl

pub connects_put : (c : ℕ) (xs : List LiveRow) (d : Effects)
    → list_any (is_connect_of c) (put_all put_live xs d)
    ≡ (list_any (λ x. x.client == c) xs || list_any (is_connect_of c) d)
connects_put c [] d = refl
connects_put c (x ∷ xs) d = connects_put c xs (put_live x d) ∙
    or_turn (list_any (λ (y : LiveRow). y.client == c) xs) (x.client == c) (list_any (is_connect_of c) d)

pub connected_put : (xs : List LiveRow) (d : Effects)
    → filter_map connected (put_all put_live xs d) ≡ reverse (map (λ x. x.client) xs) ++ filter_map connected d
connected_put [] d = refl
connected_put (x ∷ xs) d =
    let ids = map (λ (y : LiveRow). y.client) xs in
    connected_put xs (put_live x d) ∙ sym (append_assoc (reverse ids) (x.client ∷ []) (filter_map connected d)) ∙
    ap (λ l. l ++ filter_map connected d) (sym (reverse-append (x.client ∷ []) ids))

abbrev pub among : ℕ → List ℕ → Bool
among c ks = list_any (λ k. k == c) ks

identity_case : (t any : Bool) (w v z : Identity) → (t ≡ true → w ≡ v)
    → (if any then v else unwrap_or (let o : Option Identity = if t then Some w else None in o) z)
    ≡ (if t || any then v else z)
identity_case true true w v z is = refl
identity_case true false w v z is = is refl
identity_case false true w v z is = refl
identity_case false false w v z is = refl

pub identity_put : (d : Effects) (c : ℕ) (ks : List ℕ) (b : Effects)
    → identity_at (put_all put_live (map (live_row d) ks) b) c
    ≡ (if among c ks then identity_at d c else identity_at b c)
identity_put d c [] b = refl
identity_put d c (k ∷ ks) b =
    identity_put d c ks (put_live (live_row d k) b)
    ∙ identity_case (k == c) (among c ks) (identity_at d k) (identity_at d c) (identity_at b c)
    (λ e. ap (identity_at d) (number_same k c e))

-- ---- names

said_case : (t any : Bool) (o : Option Service) (z : Option Service) (s : Service) → (t ≡ true → o ≡ Some s) →
    (let v : Option Service = if any && is_some o then o else said_or (if t then Here s else Silent) z in v)
    ≡ (if (t || any) && is_some o then o else z)
said_case true true o z s is = let e = is refl in rw e refl
said_case true false o z s is = let e = is refl in rw e refl
said_case false true o z s is = refl
said_case false false o z s is = refl

none_case : (t any : Bool) (o z : Option Service) → (t ≡ true → o ≡ None)
    → (if any && is_some o then o else z) ≡ (if (t || any) && is_some o then o else z)
none_case true true o z is = refl
none_case true false o z is = let e = is refl in rw e refl
none_case false any o z is = refl

pub said_put : (d : Effects) (name : List ℕ) (ns : List (List ℕ)) (b : Effects)
    → last_said (put_all put_named (filter_map (named_under d) ns) b) name
    ≡ (if is_in name ns && is_some (service_at d name) then service_at d name else last_said b name)
said_put d name [] b = refl
said_put d name (x ∷ xs) b =
    elim (service_at d x) as (λ o. service_at d x ≡ o →
    last_said (put_all put_named (cons_option (option_map (named_row x) o) (filter_map (named_under d) xs)) b)
    name ≡ (if is_in name (x ∷ xs) && is_some (service_at d name) then service_at d name else last_said b name)) [
      | None ↦ λ e. said_put d name xs b ∙ none_case (bytes_eq x name) (is_in name xs) (service_at d name)
          (last_said b name) (λ t. ap (service_at d) (sym (same_bytes x name t)) ∙ e)
      | Some s ↦ λ e. said_put d name xs (put_named (named_row x s) b) ∙
          said_case (bytes_eq x name) (is_in name xs) (service_at d name) (last_said b name) s
          (λ t. ap (service_at d) (sym (same_bytes x name t)) ∙ e)
    ] refl

-- ---- watches

pub watches_made_put : (ws : List Watch) (d : Effects) → watches_made (put_all put_watch ws d) ≡ watches_made d ++ ws
watches_made_put [] d = sym (append-nil (watches_made d))
watches_made_put (w ∷ ws) d = watches_made_put ws (put_watch w d) ∙ append_assoc (watches_made d) (w ∷ []) ws

-- ---- inboxes

abbrev pub for_client : ℕ → WaitingRow → Option Delivery
for_client c x = if x.client == c then Some x.delivery else None

put_option : (o : Option Delivery) (xs ys : List Delivery)
    → reverse xs ++ cons_option o ys ≡ reverse (cons_option o xs) ++ ys
put_option None xs ys = refl
put_option (Some x) xs ys = sym (append_assoc (reverse xs) (x ∷ []) ys) ∙
    ap (λ l. l ++ ys) (sym (reverse-append (x ∷ []) xs))

pub deliveries_put : (c : ℕ) (xs : List WaitingRow) (d : Effects)
    → deliveries (put_all put_waiting xs d) c ≡ reverse (filter_map (for_client c) xs) ++ deliveries d c
deliveries_put c [] d = refl
deliveries_put c (x ∷ xs) d = deliveries_put c xs (put_waiting x d) ∙
    put_option (for_client c x) (filter_map (for_client c) xs) (deliveries d c)

pub for_one : (c k : ℕ) (ys : List Delivery)
    → filter_map (for_client c) (map (waiting_row k) ys) ≡ (if k == c then ys else [])
for_one c k [] = elim (k == c) as (λ b. (let v : List Delivery = [] in v) ≡ (if b then [] else []))
    [ true ↦ refl | false ↦ refl ]
for_one c k (y ∷ ys) =
    let i = for_one c k ys in
    elim (k == c) as (λ b. filter_map (for_client c) (map (waiting_row k) ys) ≡ (if b then ys else []) →
    cons_option (let o : Option Delivery = if b then Some y else None in o)
    (filter_map (for_client c) (map (waiting_row k) ys)) ≡ (if b then y ∷ ys else [])) [
      | true ↦ λ e. ap (λ l. y ∷ l) e
      | false ↦ λ e. e
    ] i

-- ---- holdings

-- How often a row gives an object to a client.
abbrev pub weight : ℕ → Node → HeldRow → ℕ
weight c n x = if (x.client == c) && same_node x.node n then x.count else 0

given_more : (c : ℕ) (n : Node) (k : ℕ) (m : Node) (r : ℕ) (d : Effects)
    → granted (Gives k m r ∷ d) c n ≡ cond ((k == c) && same_node m n) 1 0 + granted d c n
given_more c n k m r d =
    let g = sum_by-cons (λ (y : Effect). cond (is_some (number_given c n y)) 1 0) (Gives k m r) d in
    let e : is_some (number_given c n (Gives k m r)) ≡ ((k == c) && same_node m n) =
    elim ((k == c) && same_node m n) as (λ b. is_some (let o : Option ℕ = if b then Some r else None in o) ≡ b)
    [ true ↦ refl | false ↦ refl ] in
    g ∙ ap (λ (b : Bool). cond b 1 0 + granted d c n) e

times_case : (b : Bool) (n g g' h : ℕ) → g' ≡ cond b 1 0 + h → h ≡ (if b then n else 0) + g
    → g' ≡ (if b then suc n else 0) + g
times_case true n g g' h e i = omega (arith, e, i)
times_case false n g g' h e i = omega (arith, e, i)

granted_times : (c : ℕ) (n : Node) (k : ℕ) (m : Node) (r j : ℕ) (d : Effects)
    → granted (times j (Gives k m r) d) c n ≡ (if (k == c) && same_node m n then j else 0) + granted d c n
granted_times c n k m r zero d =
    elim ((k == c) && same_node m n) as (λ b. granted d c n ≡ (if b then 0 else 0) + granted d c n)
    [ true ↦ omega arith | false ↦ omega arith ]
granted_times c n k m r (suc j) d =
    times_case ((k == c) && same_node m n) j (granted d c n) (granted (Gives k m r ∷ times j (Gives k m r) d) c n)
    (granted (times j (Gives k m r) d) c n)
    (given_more c n k m r (times j (Gives k m r) d)) (granted_times c n k m r j d)

pub granted_put : (c : ℕ) (n : Node) (xs : List HeldRow) (d : Effects)
    → granted (put_all put_held xs d) c n ≡ sum_by (weight c n) xs + granted d c n
granted_put c n [] d = omega arith
granted_put c n (x ∷ xs) d =
    let i = granted_put c n xs (put_held x d) in
    let t = granted_times c n x.client x.node x.number x.count d in
    let s = sum_by-cons (weight c n) x xs in
    omega (arith, i, t, s)

number_more : (c : ℕ) (n : Node) (k : ℕ) (m : Node) (r j : ℕ) (d : Effects)
    → number_at (times j (Gives k m r) d) c n
    ≡ (if nat_lt 0 (if (k == c) && same_node m n then j else 0) then r else number_at d c n)
number_more c n k m r zero d =
    elim ((k == c) && same_node m n) as (λ b. number_at d c n
    ≡ (if nat_lt 0 (if b then 0 else 0) then r else number_at d c n)) [ true ↦ refl | false ↦ refl ]
number_more c n k m r (suc j) d =
    let i = number_more c n k m r j d in
    let pos : nat_lt 0 (suc j) ≡ true = grind (arith, nat_tests) in
    elim ((k == c) && same_node m n) as (λ b. number_at (times j (Gives k m r) d) c n
    ≡ (if nat_lt 0 (if b then j else 0) then r else number_at d c n)
    → unwrap_or (let o : Option ℕ = if b then Some r else None in o) (number_at (times j (Gives k m r) d) c n)
    ≡ (if nat_lt 0 (if b then suc j else 0) then r else number_at d c n)) [
      | true ↦ λ e. rw pos refl
      | false ↦ λ e. e
    ] i

-- The rows of an object that a client holds have this number.
abbrev pub HasNumber : ℕ → Node → ℕ → HeldRow → Type 0
HasNumber c n v x = ((x.client == c) && same_node x.node n) ≡ true → x.number ≡ v

number_case : (t : Bool) (j s s' v r z : ℕ) → s' ≡ (if t then j else 0) + s → (t ≡ true → r ≡ v)
    → (if nat_lt 0 s then v else (if nat_lt 0 (if t then j else 0) then r else z)) ≡ (if nat_lt 0 s' then v else z)
number_case true j s s' v r z e is =
    let q = is refl in
    rw q (elim (nat_lt 0 s) as (λ b. nat_lt 0 s ≡ b → (if b then v else (if nat_lt 0 j then v else z))
    ≡ (if nat_lt 0 s' then v else z)) [
      | true ↦ λ f. let g : nat_lt 0 s' ≡ true = grind (arith, nat_tests) in rw g refl
      | false ↦ λ f. let g : nat_lt 0 s' ≡ nat_lt 0 j = ap (nat_lt 0)
          (let z : s ≡ 0 = grind (arith, nat_tests) in omega (arith, e, z)) in rw g refl
    ] refl)
number_case false j s s' v r z e is = let g : s' ≡ s = omega (arith, e) in rw g refl

pub number_put : (c : ℕ) (n : Node) (v : ℕ) (xs : List HeldRow) (d : Effects) → AllOf (HasNumber c n v) xs
    → number_at (put_all put_held xs d) c n ≡ (if nat_lt 0 (sum_by (weight c n) xs) then v else number_at d c n)
number_put c n v [] d all = refl
number_put c n v (x ∷ xs) d all =
    number_put c n v xs (put_held x d) all.1
    ∙ ap (λ (z : ℕ). if nat_lt 0 (sum_by (weight c n) xs) then v else z)
    (number_more c n x.client x.node x.number x.count d)
    ∙ number_case ((x.client == c) && same_node x.node n) x.count (sum_by (weight c n) xs)
    (sum_by (weight c n) (x ∷ xs)) v x.number (number_at d c n) (sum_by-cons (weight c n) x xs) all.0
