-- The number of live clients that hold an object.
use Rattle.std.proofs.Common.{◌≡◌, ℕ, ◌<◌, Bool, true, false, ◌&&◌, ◌||◌, ◌==◌, List, [], ◌∷◌, refl, ap, sym, ◌∙◌}
use Rattle.std.proofs.Common.{subst, map, Option, Some, if◌then◌else◌, arith}
use Rattle.std.specs.Prelude.{nat_lt, nat_eq, not, count_by, cond, filter}
use Rattle.std.specs.List.{list_any, IsDistinct, AllByRecursion}
use Rattle.std.proofs.lemmas.Bool.{true≢false, and_parts, or_parts}
use Rattle.std.proofs.lemmas.Bool.Decides.{nat_tests}
use Rattle.std.proofs.lemmas.Cmp.{nat_eq_equiv}
use Rattle.std.proofs.lemmas.List.Sums.{sum_by-cons, length-filter}
use Rattle.std.proofs.lemmas.Map.Made.{length-from_same_keys}
use Rattle.std.proofs.lemmas.Map.Views.{any-filter_same}
use Rattle.sm_values.specs.declared.number.Node.{Node}
use Rattle.sm_history.specs.Effects.{Effects}
use Rattle.sm_history.specs.Clients.{is_live, live_clients}
use Rattle.sm_history.specs.Holdings.{is_held, is_in_use}
use Rattle.sm_history.specs.Sound.{IsOnce}
use Rattle.sm_history.proofs.Balanced.{number_same}
use Rattle.sm_history.proofs.Living.{any_live}
use Rattle.sm_history.proofs.Sound.{once_filter}
use Rattle.sm_grants.specs.declared.rows.ClientHandles.{ClientHandles}
use Rattle.sm_grants.specs.Slots.{HandleTable, is_in}
use Rattle.sm_grants.specs.Tracking.{TracksSlots}
use Rattle.sm_grants.specs.Rows.{table_of, slots_in, TracksRows}
use Rattle.sm_grants.specs.Holders.{holders_at}
use Rattle.sm_grants.proofs.ClientRows.{none_table}
use Rattle.sm_grants.proofs.Tracked.{held_is_in}
use Rattle.sm_history.proofs.RowsBack.{held_live}

-- ---- lists in which each number is once

flipped : (xs : List ℕ) (n : ℕ) → list_any (nat_eq n) xs ≡ list_any (λ y. y == n) xs
flipped [] n = refl
flipped (x ∷ xs) n = let e : (n == x) ≡ (x == n) = grind (arith, nat_tests) in rw (e, flipped xs n) refl

all_other : (x : ℕ) (xs : List ℕ) → list_any (λ y. y == x) xs ≡ false → AllByRecursion (λ y. nat_eq x y ≡ false) xs
all_other x [] h = tt
all_other x (y ∷ ys) h =
    let w = or_parts (y == x) (list_any (λ y. y == x) ys) h in
    let e : (x == y) ≡ (y == x) = grind (arith, nat_tests) in
    (e ∙ w.0, all_other x ys w.1)

distinct : (xs : List ℕ) → IsOnce xs → IsDistinct nat_eq xs
unfolding IsDistinct
distinct [] once = tt
distinct (x ∷ xs) once = (all_other x xs once.0, distinct xs once.1)

-- As many of both lists pass a test, if only numbers in both lists pass it.
counts_alike : (p : ℕ → Bool) (xs ys : List ℕ) → IsOnce xs → IsOnce ys
    → ((n : ℕ) → p n ≡ true → list_any (λ y. y == n) xs ≡ true)
    → ((n : ℕ) → p n ≡ true → list_any (λ y. y == n) ys ≡ true) → count_by p xs ≡ count_by p ys
counts_alike p xs ys ox oy in_xs in_ys =
    let among : (zs : List ℕ) → (n : ℕ) → list_any (nat_eq n) (filter p zs) ≡ (p n && list_any (λ y. y == n) zs) =
    λ zs n. flipped (filter p zs) n ∙ any-filter_same (λ y. y == n) p (p n) (λ k e. ap p (number_same k n e)) zs in
    let both : (n : ℕ) → (p n && list_any (λ y. y == n) xs) ≡ (p n && list_any (λ y. y == n) ys) =
    λ n. elim (p n) as (λ b. p n ≡ b → (b && list_any (λ y. y == n) xs) ≡ (b && list_any (λ y. y == n) ys))
    [ true ↦ λ e. in_xs n e ∙ sym (in_ys n e) | false ↦ λ e. refl ] refl in
    sym (length-filter p xs)
    ∙ length-from_same_keys nat_eq_equiv (filter p xs) (filter p ys) (distinct (filter p xs) (once_filter p xs ox))
    (distinct (filter p ys) (once_filter p ys oy)) (λ n. among xs n ∙ both n ∙ sym (among ys n))
    ∙ length-filter p ys

some_counted : (p : ℕ → Bool) (xs : List ℕ) → nat_lt 0 (count_by p xs) ≡ list_any p xs
some_counted p [] = refl
some_counted p (x ∷ xs) =
    let c = sum_by-cons (λ (y : ℕ). cond (p y) 1 0) x xs in
    let i = some_counted p xs in
    elim (p x) as (λ b. p x ≡ b → nat_lt 0 (count_by p (x ∷ xs)) ≡ (b || list_any p xs)) [
      | true ↦ λ e. let one = ap (λ (b : Bool). let k : ℕ = cond b 1 0 in k) e in let more : 0 < count_by p (x ∷ xs) =
          omega (arith, c, one) in grind (arith, nat_tests)
      | false ↦ λ e. let none = ap (λ (b : Bool). let k : ℕ = cond b 1 0 in k) e in
          let same : count_by p (x ∷ xs) ≡ count_by p xs = omega (arith, c, none) in rw same i
    ] refl

-- An object is in use where it has a holder.
pub in_use_is : (d : Effects) (c : ℕ) (n : Node) → nat_lt 0 (holders_at d c n) ≡ is_in_use d c n
in_use_is d c n = some_counted (λ k. not (k == c) && is_held d k n) (live_clients d)

-- ---- rows

abbrev clients_in : List ClientHandles → List ℕ
clients_in rows = map (λ (r : ClientHandles). r.client) rows

-- Each row says what its client holds.
abbrev AllSay : (ℕ → Bool) → Node → List ClientHandles → Type 0
AllSay p n rows = (k : ℕ) (t : HandleTable) → table_of rows k ≡ Some t → is_in t.slots n ≡ p k

some_table : (rows : List ClientHandles) (k : ℕ) (t : HandleTable) → table_of rows k ≡ Some t
    → list_any (λ (y : ℕ). y == k) (clients_in rows) ≡ true
some_table [] k t h = cc
some_table (r ∷ rs) k t h =
    elim (r.client == k) as (λ b. (let o : Option HandleTable = if b then Some r.handles else table_of rs k in
    o ≡ Some t) → (b || list_any (λ (y : ℕ). y == k) (clients_in rs)) ≡ true) [
      | true ↦ λ f. refl
      | false ↦ λ f. some_table rs k t f
    ] h

rest_say : (p : ℕ → Bool) (n : Node) (r : ClientHandles) (rs : List ClientHandles) → IsOnce (clients_in (r ∷ rs))
    → AllSay p n (r ∷ rs) → AllSay p n rs
rest_say p n r rs once say k t h =
    let apart : (r.client == k) ≡ false =
    elim (r.client == k) as (λ b. (r.client == k) ≡ b → b ≡ false) [
      | false ↦ λ e. refl
      | true ↦ λ e. absurd (true≢false (sym (some_table rs k t h) ∙
          subst (λ (v : ℕ). list_any (λ (y : ℕ). y == v) (clients_in rs) ≡ false) (number_same r.client k e) once.0))
    ] refl in
    say k t (rw apart h)

first_say : (p : ℕ → Bool) (n : Node) (r : ClientHandles) (rs : List ClientHandles) → AllSay p n (r ∷ rs)
    → is_in r.handles.slots n ≡ p r.client
first_say p n r rs say = say r.client r.handles (let e : (r.client == r.client) ≡ true = grind (arith, nat_tests) in
    rw e refl)

count_rows : (c : ℕ) (p : ℕ → Bool) (n : Node) (rows : List ClientHandles) → IsOnce (clients_in rows)
    → AllSay p n rows → count_by (λ (r : ClientHandles). not (r.client == c) && is_in r.handles.slots n) rows
    ≡ count_by (λ k. not (k == c) && p k) (clients_in rows)
count_rows c p n [] once say = refl
count_rows c p n (r ∷ rs) once say =
    let i = count_rows c p n rs once.1 (rest_say p n r rs once say) in
    let a = sum_by-cons (λ (x : ClientHandles). cond (not (x.client == c) && is_in x.handles.slots n) 1 0) r rs in
    let b = sum_by-cons (λ (k : ℕ). cond (not (k == c) && p k) 1 0) r.client (clients_in rs) in
    let e = ap (λ (v : Bool). let k : ℕ = cond (not (r.client == c) && v) 1 0 in k) (first_say p n r rs say) in
    omega (arith, i, a, b, e)

has_row : (d : Effects) (rows : List ClientHandles) (k : ℕ) (n : Node) → TracksRows d rows → is_held d k n ≡ true
    → list_any (λ (y : ℕ). y == k) (clients_in rows) ≡ true
has_row d rows k n tr held =
    elim (list_any (λ (y : ℕ). y == k) (clients_in rows)) as (λ b. list_any (λ (y : ℕ). y == k) (clients_in rows) ≡ b
    → b ≡ true) [
      | true ↦ λ e. refl
      | false ↦ λ e.
          let none = rw (none_table rows k e) at (tr.slots k) in
          absurd (true≢false (sym held ∙ held_is_in d k [] n none))
    ] refl

-- The rows have as many holders as there are among the live clients.
pub holders_are : (d : Effects) (rows : List ClientHandles) (c : ℕ) (n : Node) → TracksRows d rows
    → count_by (λ (r : ClientHandles). not (r.client == c) && is_in r.handles.slots n) rows ≡ holders_at d c n
holders_are d rows c n tr =
    let p = λ (k : ℕ). not (k == c) && is_held d k n in
    let say : AllSay (λ k. is_held d k n) n rows = λ k t at. sym
    (held_is_in d k t.slots n (subst (λ (o : Option HandleTable). TracksSlots d k (slots_in o)) at (tr.slots k))) in
    count_rows c (λ k. is_held d k n) n rows tr.once say
    ∙ counts_alike p (clients_in rows) (live_clients d) tr.once tr.live
    (λ k h. has_row d rows k n tr (and_parts (not (k == c)) (is_held d k n) h).1)
    (λ k h. any_live d k ∙ held_live (is_live d k) _ (and_parts (not (k == c)) (is_held d k n) h).1)
