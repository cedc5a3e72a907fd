-- The rows that are listed of a manager's tables are those of the effects.
use Rattle.std.proofs.Common.{◌≡◌, ℕ, ◌+◌, ◌-◌, ◌<◌, true, false, ◌==◌, List, [], ◌∷◌, ◌++◌, refl, ap, sym, subst}
use Rattle.std.proofs.Common.{◌∙◌, length, map, take, get_or, Option, Some, if◌then◌else◌, arith}
use Rattle.std.proofs.lemmas.List.{take_more}
use Rattle.sm_history.specs.declared.client_row.ClientRow.{ClientRow as Listed}
use Rattle.sm_history.specs.Effects.{Effects}
use Rattle.sm_history.specs.Clients.{live_clients}
use Rattle.sm_history.specs.Tables.{IsClient, IsRowFor, TracksClients, clients_of, client_row_of}
use Rattle.sm_history.proofs.Balanced.{number_same}
use Rattle.sm_core.specs.declared.client.LiveClient.{LiveClient}
use Rattle.sm_core.specs.Tables.{client_row, client_rows}
use Rattle.sm_core.specs.Listed.{AreListed, IsListed}

listed_end : (d : Effects) (rs : List LiveClient) (ls : List Listed) (r : LiveClient) (l : Listed) → AreListed d rs ls
    → IsListed d r l → AreListed d (rs ++ r ∷ []) (ls ++ l ∷ [])
listed_end d [] [] r l are is = (is, tt)
listed_end d [] (x ∷ ls) r l are is = absurd are
listed_end d (x ∷ rs) [] r l are is = absurd are
listed_end d (x ∷ rs) (y ∷ ls) r l are is = (are.0, listed_end d rs ls r l are.1 is)

-- One more row was listed.
pub listed_more : (d : Effects) (rows : List LiveClient) (i : ℕ) (row : LiveClient) (list list' : List Listed)
    (l : Listed) → row ≡ get_or rows i row → i < length rows → list' ≡ list ++ l ∷ []
    → AreListed d (take i rows) list → IsListed d row l → AreListed d (take (i + 1) rows) list'
listed_more d rows i row list list' l at lt more are is =
    let taken : take (i + 1) rows ≡ take i rows ++ row ∷ [] =
    take_more rows i row lt ∙ ap (λ (v : LiveClient). take i rows ++ v ∷ []) (sym at) in
    rw (taken, more) (listed_end d (take i rows) list row l are is)

ids_listed : (d : Effects) (ks : List ℕ) (ls : List Listed) → AreListed d (map (client_row d) ks) ls
    → clients_of ls ≡ ks
ids_listed d [] [] are = refl
ids_listed d [] (l ∷ ls) are = absurd are
ids_listed d (k ∷ ks) [] are = absurd are
ids_listed d (k ∷ ks) (l ∷ ls) are =
    ap (λ (n : ℕ). n ∷ clients_of ls) are.0.client ∙ ap (λ (ns : List ℕ). k ∷ ns) (ids_listed d ks ls are.1)

is_client : (d : Effects) (k c : ℕ) (l : Listed) → IsListed d (client_row d k) l → k ≡ c → IsClient d c l
is_client d k c l is same = subst (λ (n : ℕ). IsClient d n l) same
    (record { who = is.who; held = is.held; waiting = is.waiting })

row_listed : (d : Effects) (ks : List ℕ) (ls : List Listed) → AreListed d (map (client_row d) ks) ls → (c : ℕ)
    → IsRowFor d c (client_row_of ls c)
row_listed d [] [] are c = tt
row_listed d [] (l ∷ ls) are c = absurd are
row_listed d (k ∷ ks) [] are c = absurd are
row_listed d (k ∷ ks) (l ∷ ls) are c =
    elim (l.client == c) as (λ b. (l.client == c) ≡ b →
    IsRowFor d c (let o : Option Listed = if b then Some l else client_row_of ls c in o)) [
      | true ↦ λ e. is_client d k c l are.0 (sym are.0.client ∙ number_same l.client c e)
      | false ↦ λ e. row_listed d ks ls are.1 c
    ] refl

pub tracks_clients : (d : Effects) (rows : List LiveClient) (ls : List Listed) → rows ≡ client_rows d
    → AreListed d rows ls → TracksClients d ls
tracks_clients d rows ls is are =
    let listed : AreListed d (client_rows d) ls = subst (λ (rs : List LiveClient). AreListed d rs ls) is are in
    record {
      ids = ids_listed d (live_clients d) ls listed;
      each = row_listed d (live_clients d) ls listed;
    }

pub before_next : (next made count : ℕ) → next ≡ made + 1 → count ≡ next - 1 → count ≡ made
before_next next made count is less = omega (arith, is, less)
