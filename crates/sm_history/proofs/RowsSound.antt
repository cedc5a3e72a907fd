-- The effects of rows are as those of a lawful history; and where tables agree, their rows are the same.
use Rattle.std.proofs.Common.{◌≡◌, ℕ, ◌+◌, ◌≤◌, Bool, true, false, ◌==◌, List, [], ◌∷◌, refl, ap, sym, ◌∙◌, subst}
use Rattle.std.proofs.Common.{map, Option, Some, None, if◌then◌else◌, arith}
use Rattle.std.specs.Prelude.{filter, filter_map, option_map, reverse}
use Rattle.std.specs.List.{list_any, flat_map, range_with_len}
use Rattle.sm_values.specs.declared.number.Node.{Node}
use Rattle.sm_values.specs.declared.identity.Identity.{Identity}
use Rattle.sm_history.specs.Effects.{Effect, Effects, Service, Watch, Opens, Sets, Connects, Adds, Gives, Watches}
use Rattle.sm_history.specs.Effects.{Delivers}
use Rattle.sm_history.specs.Clients.{is_live, live_clients, next_client, connected}
use Rattle.sm_history.specs.Holdings.{is_held, number_at, node_at, held_nodes, given_nodes}
use Rattle.sm_history.specs.Services.{last_said, if_owner_lives, current_names, watches_at, watches_made}
use Rattle.sm_history.specs.Inboxes.{inbox_at}
use Rattle.sm_history.specs.Rows.{LiveRow, HeldRow, NamedRow, WaitingRow, live_row, greatest, top_number, held_under}
use Rattle.sm_history.specs.Rows.{held_row, held_rows, named_under, named_row, waiting_row, waiting_rows, rows_at}
use Rattle.sm_history.specs.Rows.{put_live, put_named, put_held, put_watch, put_waiting, live_put, names_put}
use Rattle.sm_history.specs.Rows.{held_put, watches_put, resumed}
use Rattle.sm_history.proofs.Fresh.{live_below, below}
use Rattle.sm_history.proofs.Rising.{names_alike}
use Rattle.sm_history.proofs.HeldAlike.{held_among}
use Rattle.sm_history.proofs.AgreeEffects.{Sim, sim_held, sim_nodes, held_alike}
use Rattle.sm_history.proofs.PutRows.{AllOf, IfSomeOf, all_each, all_map, all_flat, all_filter_map, kept_all}
use Rattle.sm_history.proofs.PutRows.{kept_times}
use Rattle.sm_history.proofs.RowsBack.{agree_rows, list_back, said_back, takes_back, released_back, below_top}
use Rattle.std.proofs.lemmas.Bool.{or_from}
use Rattle.sm_history.specs.Sound.{IsFresh, IsOnce, Sound, names}

pub all_imply : {X : Type 0} (P Q : X → Type 0) (xs : List X) → ((x : X) → P x → Q x) → AllOf P xs → AllOf Q xs
all_imply P Q [] imp h = tt
all_imply P Q (x ∷ xs) imp h = (imp x h.0, all_imply P Q xs imp h.1)

pub all_filter : {X : Type 0} (p : X → Bool) (xs : List X) → AllOf (λ x. p x ≡ true) (filter p xs)
all_filter p [] = tt
all_filter p (x ∷ xs) = elim (p x) as (λ b. p x ≡ b →
    AllOf (λ y. p y ≡ true) (if b then x ∷ filter p xs else filter p xs))
    [ true ↦ λ e. (e, all_filter p xs) | false ↦ λ e. all_filter p xs ] refl

-- ---- soundness

one_more : (k : ℕ) (x : Effect) (d : Effects) → names k x ≡ false → list_any (names k) d ≡ false
    → list_any (names k) (x ∷ d) ≡ false
one_more k x d h i = or_from (names k x) (list_any (names k) d) h i

some_of : (d : Effects) (c n k : ℕ) (o : Option Node) → (c == k) ≡ false
    → IfSomeOf (λ (x : HeldRow). (x.client == k) ≡ false) (option_map (held_row d c n) o)
some_of d c n k None e = tt
some_of d c n k (Some m) e = e

fresh_back : (d : Effects) → Sound d → IsFresh (resumed (rows_at d))
fresh_back d s k le =
    let r = rows_at d in
    let P = λ (b : Effects). list_any (names k) b ≡ false in
    let not_k : (c : ℕ) → is_live d c ≡ true → (c == k) ≡ false =
    λ c live. below c (next_client d) k (live_below d c s.fresh live) le in
    let lives : AllOf (λ c. is_live d c ≡ true) (live_clients d) =
    all_filter (is_live d) (reverse (filter_map connected d)) in
    kept_all P (λ (x : WaitingRow). (x.client == k) ≡ false) put_waiting
    (λ x b h i. one_more k (Delivers x.client x.delivery) b h i) r.waiting (watches_put r)
    (all_flat (λ (x : WaitingRow). (x.client == k) ≡ false) (waiting_rows d) (live_clients d)
    (all_imply (λ c. is_live d c ≡ true)
    (λ c. AllOf (λ (x : WaitingRow). (x.client == k) ≡ false) (waiting_rows d c)) (live_clients d)
    (λ c live. all_map (λ (x : WaitingRow). (x.client == k) ≡ false) (waiting_row c) (inbox_at d c)
    (all_each (λ x. (c == k) ≡ false) (inbox_at d c) (λ x. not_k c live))) lives))
    (kept_all P (λ (w : Watch). (w.client == k) ≡ false) put_watch (λ w b h i. one_more k (Watches w) b h i) r.watches
    (held_put r)
    (all_imply (λ (w : Watch). is_live d w.client ≡ true) (λ w. (w.client == k) ≡ false) (watches_at d)
    (λ w live. not_k w.client live) (all_filter (λ (w : Watch). is_live d w.client) (watches_made d)))
    (kept_all P (λ (x : HeldRow). (x.client == k) ≡ false) put_held
    (λ x b h i. kept_times P (Gives x.client x.node x.number)
    (λ b' j. one_more k (Gives x.client x.node x.number) b' h j) x.count b i) r.held (names_put r)
    (all_flat (λ (x : HeldRow). (x.client == k) ≡ false) (held_rows d) (live_clients d)
    (all_imply (λ c. is_live d c ≡ true) (λ c. AllOf (λ (x : HeldRow). (x.client == k) ≡ false) (held_rows d c))
    (live_clients d)
    (λ c live. all_filter_map (λ (x : HeldRow). (x.client == k) ≡ false) (held_under d c)
    (range_with_len 0 (top_number d c + 1)) (λ n. some_of d c n k (node_at d c n) (not_k c live))) lives))
    (kept_all P (λ (x : NamedRow). Unit {0}) put_named (λ x b h i. one_more k (Adds x.name x.service) b refl i)
    r.names (live_put r) (all_each (λ (x : NamedRow). Unit {0}) r.names (λ x. tt))
    (kept_all P (λ (x : LiveRow). (x.client == k) ≡ false) put_live
    (λ x b h i. one_more k (Connects x.client x.who) b h i) r.live (Sets r.policy ∷ Opens r.manager ∷ [])
    (all_map (λ (x : LiveRow). (x.client == k) ≡ false) (live_row d) (live_clients d)
    (all_imply (λ c. is_live d c ≡ true) (λ c. (c == k) ≡ false) (live_clients d) (λ c live. not_k c live) lives))
    refl))))

owner_live : (d : Effects) (o : Option Service) (s : Service) → if_owner_lives d o ≡ Some s
    → is_live d s.node.owner.0 ≡ true
owner_live d None s h = cc
owner_live d (Some t) s h =
    elim (is_live d t.node.owner.0) as (λ b. is_live d t.node.owner.0 ≡ b →
    (let o : Option Service = if b then Some t else None in o) ≡ Some s → is_live d s.node.owner.0 ≡ true) [
      | true ↦ λ e f. let same : t ≡ s = cc in subst (λ (v : Service). is_live d v.node.owner.0 ≡ true) same e
      | false ↦ λ e f. cc
    ] refl h

pub sound_back : (d : Effects) → Sound d → Sound (resumed (rows_at d))
sound_back d s =
    let e = resumed (rows_at d) in
    let a = agree_rows d s in
    record {
      fresh = fresh_back d s;
      owned = λ name t h. live_below d t.node.owner.0 s.fresh
          (owner_live d (last_said d name) t (sym (said_back d name) ∙ h));
      balanced = λ c n. let z = released_back d c n in omega (arith, z);
      single = λ c m p hm hp is.
          let hm' = held_alike d e c m a ∙ hm in
          let hp' = held_alike d e c p a ∙ hp in
          s.single c m p hm' hp' (a.numbers c m hm' ∙ is ∙ sym (a.numbers c p hp'));
      taken = λ c. let z = takes_back d c in omega (arith, z);
      once = subst IsOnce (sym (list_back d)) s.once;
    }

pub sim_rows : (d : Effects) → Sound d → Sim d (resumed (rows_at d))
sim_rows d s = record { agree = agree_rows d s; left = s; right = sound_back d s }

-- ---- the same rows

pub map_alike : {X Y : Type 0} (P : X → Type 0) (f g : X → Y) (xs : List X) → ((x : X) → P x → f x ≡ g x) → AllOf P xs
    → map f xs ≡ map g xs
map_alike P f g [] same all = refl
map_alike P f g (x ∷ xs) same all = rw (same x all.0, map_alike P f g xs same all.1) refl

pub filter_map_alike : {X Y : Type 0} (f g : X → Option Y) (xs : List X) → ((x : X) → f x ≡ g x)
    → filter_map f xs ≡ filter_map g xs
filter_map_alike f g [] same = refl
filter_map_alike f g (x ∷ xs) same = rw (same x, filter_map_alike f g xs same) refl

flat_map_alike : {X Y : Type 0} (f g : X → List Y) (xs : List X) → ((x : X) → f x ≡ g x) → flat_map f xs ≡ flat_map g xs
flat_map_alike f g [] same = refl
flat_map_alike f g (x ∷ xs) same = rw (same x, flat_map_alike f g xs same) refl

most : (f : Node → ℕ) (b : ℕ) (ns : List Node) → AllOf (λ n. f n ≤ b) ns → greatest (map f ns) ≤ b
most f b [] all = omega arith
most f b (n ∷ ns) all = let i = most f b ns all.1 in let j = all.0 in omega (arith, i, j)

top_below : (d e : Effects) (c : ℕ)
    → ((n : Node) → is_held d c n ≡ true → (is_held e c n ≡ true) × (number_at d c n ≡ number_at e c n))
    → top_number d c ≤ top_number e c
top_below d e c same =
    most (number_at d c) (top_number e c) (held_nodes d c)
    (all_imply (λ n. is_held d c n ≡ true) (λ n. number_at d c n ≤ top_number e c) (held_nodes d c)
    (λ n h. let s = same n h in let le = below_top (number_at e c) (held_nodes e c) n (held_among e c n s.0) in
    let is = s.1 in omega (arith, le, is))
    (all_filter (is_held d c) (given_nodes d c)))

top_alike : (d e : Effects) (c : ℕ) → Sim d e → top_number d c ≡ top_number e c
top_alike d e c s =
    let le = top_below d e c (λ n h. (sym (sim_held d e c n s) ∙ h, s.agree.numbers c n h)) in
    let ge = top_below e d c (λ n h. let h' = sim_held d e c n s ∙ h in (h', sym (s.agree.numbers c n h'))) in
    omega (arith, le, ge)

under_alike : (d e : Effects) (c r : ℕ) (o : Option Node) → Sim d e
    → option_map (held_row d c r) o ≡ option_map (held_row e c r) o
under_alike d e c r None s = refl
under_alike d e c r (Some n) s =
    rw (s.agree.refs c n) refl

held_rows_alike : (d e : Effects) (c : ℕ) → Sim d e → held_rows d c ≡ held_rows e c
held_rows_alike d e c s =
    filter_map_alike (held_under d c) (held_under e c) (range_with_len 0 (top_number d c + 1))
    (λ r. under_alike d e c r (node_at d c r) s ∙ ap (option_map (held_row e c r)) (sim_nodes d e c r s))
    ∙ ap (λ k. filter_map (held_under e c) (range_with_len 0 (k + 1))) (top_alike d e c s)

pub rows_alike : (d e : Effects) → Sim d e → rows_at d ≡ rows_at e
rows_alike d e s =
    let a = s.agree in
    let live : map (live_row d) (live_clients d) ≡ map (live_row e) (live_clients e) =
    map_alike (λ c. is_live d c ≡ true) (live_row d) (live_row e) (live_clients d)
    (λ c l. ap (λ (w : Identity). let v : LiveRow = record { client = c; who = w } in v) (a.who c l))
    (all_filter (is_live d) (reverse (filter_map connected d)))
    ∙ ap (map (live_row e)) a.live_list in
    let held : flat_map (held_rows d) (live_clients d) ≡ flat_map (held_rows e) (live_clients e) =
    flat_map_alike (held_rows d) (held_rows e) (live_clients d) (λ c. held_rows_alike d e c s) ∙
    ap (flat_map (held_rows e)) a.live_list in
    let named : filter_map (named_under d) (current_names d) ≡ filter_map (named_under e) (current_names e) =
    filter_map_alike (named_under d) (named_under e) (current_names d)
    (λ n. ap (option_map (named_row n)) (a.services n)) ∙
    ap (filter_map (named_under e)) (names_alike d e a.services) in
    let waiting : flat_map (waiting_rows d) (live_clients d) ≡ flat_map (waiting_rows e) (live_clients e) =
    flat_map_alike (waiting_rows d) (waiting_rows e) (live_clients d) (λ c. ap (map (waiting_row c)) (a.inboxes c)) ∙
    ap (flat_map (waiting_rows e)) a.live_list in
    rw (a.policy, a.version, a.manager, a.clients, live, held, named, a.watches, waiting) refl
