-- What waits for a client, after an effect.
use Rattle.std.proofs.Common.{◌≡◌, ℕ, ◌+◌, ◌≤◌, Bool, true, false, ◌&&◌, ◌==◌, List, [], ◌∷◌, ◌++◌, refl, ap, sym}
use Rattle.std.proofs.Common.{◌∙◌, Option, Some, None, if◌then◌else◌, arith, subst, length, drop}
use Rattle.std.specs.Prelude.{cond, reverse, not}
use Rattle.std.specs.List.{list_any, cons_option}
use Rattle.std.proofs.lemmas.Bool.Decides.{nat_tests}
use Rattle.std.proofs.lemmas.List.{reverse-append, length-reverse, drop-append-le, drop-drop, drop_all}
use Rattle.std.proofs.lemmas.List.Sums.{sum_by-cons}
use Rattle.sm_values.specs.declared.identity.Identity.{Identity}
use Rattle.sm_history.specs.declared.delivery.Delivery.{Delivery}
use Rattle.sm_history.specs.Effects.{Effect, Effects, Connects, Dies, Delivers, Takes}
use Rattle.sm_history.specs.Clients.{is_live}
use Rattle.sm_history.specs.Inboxes.{inbox_at, is_take_of}
use Rattle.sm_history.proofs.AfterClients.{IsNew, live_connects, live_dies, was_not_live}
use Rattle.std.proofs.lemmas.Bool.{or_parts}
use Rattle.sm_history.specs.Sound.{IsTakenFrom, deliveries, names, takes}

none_delivered : (d : Effects) (c : ℕ) → IsNew d c → deliveries d c ≡ []
none_delivered [] c h = refl
none_delivered (Delivers k x ∷ d) c h = rw (or_parts (k == c) (list_any (names c) d) h).0
    (none_delivered d c (or_parts (k == c) (list_any (names c) d) h).1)
none_delivered (x ∷ d) c h = none_delivered d c (or_parts (names c x) (list_any (names c) d) h).1

drop_none : (n : ℕ) → drop n (let xs : List Delivery = [] in xs) ≡ []
drop_none n = drop_all n (let xs : List Delivery = [] in xs) (omega arith)

connects_case : (t live live' : Bool) (n : ℕ) (xs : List Delivery) → live' ≡ (if t then true else live)
    → (t ≡ true → (live ≡ false) × (xs ≡ []))
    → (if live' then drop n (reverse xs) else []) ≡ (if live then drop n (reverse xs) else [])
connects_case true live live' n xs e new = let z = new refl in rw (e, z.0, z.1) (drop_none n)
connects_case false live live' n xs e new = rw e refl

pub inbox_connects : (d : Effects) (n : ℕ) (who : Identity) (c : ℕ) → IsNew d n
    → inbox_at (Connects n who ∷ d) c ≡ inbox_at d c
inbox_connects d n who c new =
    connects_case (n == c) (is_live d c) (is_live (Connects n who ∷ d) c) (takes d c) (deliveries d c)
    (live_connects d n who c new)
    (λ e.
    let same : n ≡ c = grind (arith, nat_tests) in
    let new' : IsNew d c = subst (λ v. IsNew d v) same new in
    (was_not_live d c new', none_delivered d c new'))

pub inbox_dies : (d : Effects) (c k : ℕ) → inbox_at (Dies c ∷ d) k ≡ (if c == k then [] else inbox_at d k)
inbox_dies d c k =
    let xs = drop (takes d k) (reverse (deliveries d k)) in
    rw (live_dies d c k)
    (elim (c == k) as (λ t. (if is_live d k && not t then xs else [])
    ≡ (if t then [] else (if is_live d k then xs else []))) [
      | true ↦ elim (is_live d k) as (λ l. (if l && false then xs else []) ≡ []) [ true ↦ refl | false ↦ refl ]
      | false ↦ elim (is_live d k) as (λ l. (if l && true then xs else []) ≡ (if l then xs else []))
          [ true ↦ refl | false ↦ refl ]
    ])

delivers_case : (t live : Bool) (n : ℕ) (x : Delivery) (xs : List Delivery) → n ≤ length xs
    → (if live then drop n (reverse (let ys : List Delivery = if t then x ∷ xs else xs in ys)) else [])
    ≡ (if t && live then (if live then drop n (reverse xs) else []) ++ x ∷ []
    else (if live then drop n (reverse xs) else []))
delivers_case true true n x xs le = ap (drop n) (reverse-append (x ∷ []) xs) ∙
    drop-append-le n (reverse xs) (x ∷ []) (rw (length-reverse xs) le)
delivers_case true false n x xs le = refl
delivers_case false true n x xs le = refl
delivers_case false false n x xs le = refl

pub inbox_delivers : (d : Effects) (c : ℕ) (x : Delivery) (k : ℕ) → IsTakenFrom d
    → inbox_at (Delivers c x ∷ d) k ≡ (if (c == k) && is_live d k then inbox_at d k ++ x ∷ [] else inbox_at d k)
inbox_delivers d c x k taken =
    let made : deliveries (Delivers c x ∷ d) k ≡ (if c == k then x ∷ deliveries d k else deliveries d k) =
    elim (c == k) as (λ t. cons_option (let o : Option Delivery = if t then Some x else None in o) (deliveries d k)
    ≡ (if t then x ∷ deliveries d k else deliveries d k)) [ true ↦ refl | false ↦ refl ] in
    ap (λ xs. if is_live d k then drop (takes d k) (reverse xs) else []) made ∙
    delivers_case (c == k) (is_live d k) (takes d k) x (deliveries d k) (taken k)

takes_case : (t live : Bool) (n n' : ℕ) (xs : List Delivery) → n' ≡ cond t 1 0 + n
    → (if live then drop n' xs else [])
    ≡ (if t then drop 1 (if live then drop n xs else []) else (if live then drop n xs else []))
takes_case true true n n' xs e = rw e (ap (λ m. drop m xs) (omega arith) ∙ sym (drop-drop 1 n xs))
takes_case true false n n' xs e = refl
takes_case false true n n' xs e = ap (λ m. drop m xs) (omega (arith, e))
takes_case false false n n' xs e = refl

pub inbox_takes : (d : Effects) (c k : ℕ)
    → inbox_at (Takes c ∷ d) k ≡ (if c == k then drop 1 (inbox_at d k) else inbox_at d k)
inbox_takes d c k = takes_case (c == k) (is_live d k) (takes d k) (takes (Takes c ∷ d) k) (reverse (deliveries d k))
    (sum_by-cons (λ (y : Effect). cond (is_take_of k y) 1 0) (Takes c) d)
