-- Rows that come under another policy one after another.
use Rattle.std.proofs.Common.{◌≡◌, ℕ, zero, suc, ◌+◌, List, [], ◌∷◌, length, map, set, get_or, refl, ap, sym, ◌∙◌, arith}
use Rattle.std.proofs.lemmas.Simd.{map-map}
use Rattle.sm_values.specs.declared.identity.Identity.{Identity}
use Rattle.sm_policy.specs.Policy.{Policy}
use Rattle.sm_history.specs.Effects.{Effects}
use Rattle.sm_history.specs.declared.effect.Effect.TheVariants.{Opens, Sets}
use Rattle.sm_history.specs.Clients.{live_clients, manager_at, policy_at}
use Rattle.sm_core.specs.Tables.{process_at, process_under, row_of, row_under, client_row, client_rows}
use Rattle.sm_core.specs.declared.client.LiveClient.{LiveClient}
use Rattle.sm_core.specs.declared.process.Process.{Process}

abbrev pub mapped_to : {X : Type 0} → (X → X) → List X → ℕ → List X
mapped_to f [] i = []
mapped_to f (x ∷ xs) zero = x ∷ xs
mapped_to f (x ∷ xs) (suc i) = f x ∷ mapped_to f xs i

pub none_mapped : {X : Type 0} (f : X → X) (xs : List X) → xs ≡ mapped_to f xs 0
none_mapped f [] = refl
none_mapped f (x ∷ xs) = refl

next_mapped : {X : Type 0} (f : X → X) (xs : List X) (i : ℕ) (d : X)
    → set (mapped_to f xs i) i (f (get_or (mapped_to f xs i) i d)) ≡ mapped_to f xs (suc i)
next_mapped f [] i d = refl
next_mapped f (x ∷ xs) zero d = ap (λ ys. f x ∷ ys) (none_mapped f xs)
next_mapped f (x ∷ xs) (suc i) d = ap (λ ys. f x ∷ ys) (next_mapped f xs i d)

pub one_mapped : {X : Type 0} (f : X → X) (xs ys : List X) (i : ℕ) (d y : X) → ys ≡ mapped_to f xs i
    → y ≡ f (get_or ys i d) → set ys i y ≡ mapped_to f xs (i + 1)
one_mapped f xs ys i d y so is =
    let more : i + 1 ≡ suc i = omega arith in
    rw (is, so, more) (next_mapped f xs i d)

pub all_mapped : {X : Type 0} (f : X → X) (xs : List X) → mapped_to f xs (length xs) ≡ map f xs
all_mapped f [] = refl
all_mapped f (x ∷ xs) = ap (λ ys. f x ∷ ys) (all_mapped f xs)

-- What another policy does to the rows of clients.
pub clients_sets : (d : Effects) (p : Policy) {rows : List LiveClient} → rows ≡ client_rows d
    → map (row_under p (manager_at d)) rows ≡ client_rows (Sets p ∷ d)
clients_sets d p e =
    ap (map (row_under p (manager_at d))) e
    ∙ map-map (row_under p (manager_at d)) (client_row d) (live_clients d)

-- What another manager does to them.
pub clients_opens : (d : Effects) (who : Identity) {rows : List LiveClient} → rows ≡ client_rows d
    → map (row_under (policy_at d) who) rows ≡ client_rows (Opens who ∷ d)
clients_opens d who e =
    ap (map (row_under (policy_at d) who)) e
    ∙ map-map (row_under (policy_at d) who) (client_row d) (live_clients d)

-- A row that is renumbered for a manager's process, and one that is made by it.
pub rows_opened : (d : Effects) (who : Identity) (p : Policy) (m : Process) {rows : List LiveClient} → p ≡ policy_at d
    → m ≡ process_under p who → rows ≡ client_rows d → map (row_under p m.who) rows ≡ client_rows (Opens who ∷ d)
rows_opened d who p m {rows} ep em e =
    ap (λ (w : Identity). map (row_under p w) rows) (ap (λ (q : Process). q.who) em)
    ∙ ap (λ (q : Policy). map (row_under q who) rows) ep
    ∙ clients_opens d who e

pub rows_set : (d : Effects) (p : Policy) (old m : Process) {rows : List LiveClient} → m ≡ process_under p old.who
    → old ≡ process_at d (manager_at d) → rows ≡ client_rows d
    → map (row_under p m.who) rows ≡ client_rows (Sets p ∷ d)
rows_set d p old m {rows} em eo e =
    ap (λ (w : Identity). map (row_under p w) rows)
    (ap (λ (q : Process). q.who) em ∙ ap (λ (q : Process). q.who) eo)
    ∙ clients_sets d p e

pub stands_under : (d : Effects) (p : Policy) (m : Process) → m ≡ process_at d (manager_at d) → p ≡ policy_at d
    → m ≡ process_under p m.who
stands_under d p m em ep =
    em
    ∙ ap (λ (w : Identity). process_under (policy_at d) w) (sym (ap (λ (q : Process). q.who) em))
    ∙ ap (λ (q : Policy). process_under q m.who) (sym ep)

pub row_made : (d : Effects) (p : Policy) (m : Process) (n : ℕ) (who : Identity) → m ≡ process_at d (manager_at d)
    → p ≡ policy_at d → row_of p m.who n who ≡ row_of (policy_at d) (manager_at d) n who
row_made d p m n who em ep =
    ap (λ (w : Identity). row_of p w n who) (ap (λ (q : Process). q.who) em)
    ∙ ap (λ (q : Policy). row_of q (manager_at d) n who) ep
