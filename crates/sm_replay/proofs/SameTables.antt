-- Tables that are what effects left are what other effects with the same rows left, and so are copies of the tables.
use Rattle.std.proofs.Common.{◌≡◌, ℕ, true, false, ◌==◌, List, [], ◌∷◌, refl, ap, sym, ◌∙◌, subst, Option, Some, None}
use Rattle.std.proofs.Common.{cond, ◌+◌, ◌<◌, ◌++◌, length, take, get_or}
use Rattle.std.specs.Prelude.{is_some}
use Rattle.std.specs.List.{list_any}
use Rattle.sm_history.specs.declared.held.Held.{Held}
use Rattle.sm_history.specs.declared.client_row.ClientRow.{ClientRow}
use Rattle.sm_history.specs.declared.tables.Tables.{Tables}
use Rattle.sm_history.specs.Effects.{Effects}
use Rattle.sm_history.specs.Clients.{is_live, live_clients}
use Rattle.sm_history.specs.Agreeing.{Agree}
use Rattle.sm_history.specs.Rows.{Rows, rows_at, resumed}
use Rattle.sm_history.specs.Sound.{Sound}
use Rattle.sm_history.specs.Tables.{slot, client_row_of, clients_of, IsClient, IsRowFor, TracksClients, TracksTables}
use Rattle.sm_replay.specs.Replaying.{AreSameRows}
use Rattle.sm_history.proofs.Living.{any_live}
use Rattle.sm_history.proofs.AgreeEffects.{Sim, held_alike}
use Rattle.sm_history.proofs.RowsSound.{sim_rows}
use Rattle.sm_replay.proofs.AfterClientRows.{in_ids, slots_alike}
use Rattle.sm_history.proofs.AfterNamedRows.{names_stay}
use Rattle.sm_history.proofs.SegmentLengths.{take_item}

-- ---- effects that agree

agree_back : (d e : Effects) → Agree d e → Agree e d
agree_back d e a = record {
  policy = sym a.policy;
  version = sym a.version;
  manager = sym a.manager;
  clients = sym a.clients;
  lives = λ c. sym (a.lives c);
  live_list = sym a.live_list;
  who = λ c live. sym (a.who c (a.lives c ∙ live));
  refs = λ c n. sym (a.refs c n);
  numbers = λ c n held. sym (a.numbers c n (held_alike d e c n a ∙ held));
  services = λ name. sym (a.services name);
  watches = sym a.watches;
  inboxes = λ c. sym (a.inboxes c);
}

sim_back : (d e : Effects) → Sim d e → Sim e d
sim_back d e s = record { agree = agree_back d e s.agree; left = s.right; right = s.left }

client_alike : (d e : Effects) (c : ℕ) (r : ClientRow) → Sim d e → is_live d c ≡ true → IsClient d c r → IsClient e c r
client_alike d e c r s live i =
    let a = s.agree in
    record {
      who = i.who ∙ a.who c live;
      held = λ k. i.held k ∙ sym (slots_alike d e c k (s.right.single c)
          (λ n held at. (sym (held_alike d e c n a) ∙ held, sym (a.numbers c n held) ∙ at, sym (a.refs c n)))
          (λ n held at. let h = held_alike d e c n a ∙ held in (h, a.numbers c n h ∙ at)));
      waiting = i.waiting ∙ a.inboxes c;
    }

has_row : (d : Effects) (rows : List ClientRow) (c : ℕ) (r : ClientRow) → clients_of rows ≡ live_clients d
    → client_row_of rows c ≡ Some r → is_live d c ≡ true
has_row d rows c r ids at =
    sym (any_live d c) ∙ ap (list_any (λ y. y == c)) (sym ids) ∙ in_ids rows c
    ∙ ap (λ (o : Option ClientRow). is_some o) at

clients_alike : (d e : Effects) (rows : List ClientRow) → Sim d e → TracksClients d rows → TracksClients e rows
clients_alike d e rows s tr = record {
  ids = tr.ids ∙ s.agree.live_list;
  each = λ c. elim (client_row_of rows c) as (λ o. client_row_of rows c ≡ o → IsRowFor d c o → IsRowFor e c o) [
    | None ↦ λ at i. tt
    | Some r ↦ λ at i. client_alike d e c r s (has_row d rows c r tr.ids at) i
  ] refl (tr.each c);
}

pub tables_alike : (d e : Effects) (t : Tables) → Sim d e → TracksTables d t → TracksTables e t
tables_alike d e t s tr =
    let a = s.agree in
    record {
      manager = tr.manager ∙ a.manager;
      policy = tr.policy ∙ a.policy;
      version = tr.version ∙ a.version;
      clients = tr.clients ∙ a.clients;
      live = clients_alike d e t.live.items s tr.live;
      names = names_stay d e t.names.items (λ q. sym (a.services q)) tr.names;
      watches = tr.watches ∙ a.watches;
    }

-- Effects that left the same rows left the same tables.
pub same_tables : (d e : Effects) (t : Tables) → Sound d → Sound e → rows_at d ≡ rows_at e → TracksTables d t
    → TracksTables e t
same_tables d e t sd se rows tr =
    let x = resumed (rows_at d) in
    let here : Sim e x = subst (λ (r : Rows). Sim e (resumed r)) (sym rows) (sim_rows e se) in
    tables_alike x e t (sim_back e x here) (tables_alike d x t (sim_rows d sd) tr)

-- ---- copies

ids_same : (rows copies : List ClientRow) → AreSameRows rows copies → clients_of copies ≡ clients_of rows
ids_same [] [] same = refl
ids_same [] (y ∷ ys) same = absurd same
ids_same (x ∷ xs) [] same = absurd same
ids_same (x ∷ xs) (y ∷ ys) same = rw (same.0, ids_same xs ys same.4) refl

each_same : (d : Effects) (c : ℕ) (rows copies : List ClientRow) → AreSameRows rows copies
    → IsRowFor d c (client_row_of rows c) → IsRowFor d c (client_row_of copies c)
each_same d c [] [] same i = tt
each_same d c [] (y ∷ ys) same i = absurd same
each_same d c (x ∷ xs) [] same i = absurd same
each_same d c (x ∷ xs) (y ∷ ys) same i =
    subst (λ (k : ℕ). IsRowFor d c (cond (k == c) (Some y) (client_row_of ys c))) (sym same.0)
    (elim (x.client == c) as (λ b. IsRowFor d c (cond b (Some x) (client_row_of xs c))
    → IsRowFor d c (cond b (Some y) (client_row_of ys c))) [
      | true ↦ λ own. record {
        who = same.1 ∙ own.who;
        held = λ k. ap (λ (s : List (Option Held)). slot s k) same.2 ∙ own.held k;
        waiting = same.3 ∙ own.waiting;
      }
      | false ↦ λ rest. each_same d c xs ys same.4 rest
    ] i)

pub clients_copied : (d : Effects) (rows copies : List ClientRow) → AreSameRows rows copies → TracksClients d rows
    → TracksClients d copies
clients_copied d rows copies same tr = record {
  ids = ids_same rows copies same ∙ tr.ids;
  each = λ c. each_same d c rows copies same (tr.each c);
}

same_more : (xs ys : List ClientRow) (x y : ClientRow) → AreSameRows xs ys → y.client ≡ x.client → y.who ≡ x.who
    → y.held.items ≡ x.held.items → y.waiting.items ≡ x.waiting.items → AreSameRows (xs ++ x ∷ []) (ys ++ y ∷ [])
same_more [] [] x y same client who held waiting = (client, who, held, waiting, tt)
same_more [] (b ∷ ys) x y same client who held waiting = absurd same
same_more (a ∷ xs) [] x y same client who held waiting = absurd same
same_more (a ∷ xs) (b ∷ ys) x y same client who held waiting =
    (same.0, same.1, same.2, same.3, same_more xs ys x y same.4 client who held waiting)

-- One more row of a copy.
pub copied_more : (rows copies more : List ClientRow) (i : ℕ) (x y : ClientRow) → i < length rows → x ≡ get_or rows i x
    → AreSameRows (take i rows) copies → more ≡ copies ++ y ∷ [] → y.client ≡ x.client → y.who ≡ x.who
    → y.held.items ≡ x.held.items → y.waiting.items ≡ x.waiting.items → AreSameRows (take (i + 1) rows) more
copied_more rows copies more i x y lt is same put client who held waiting =
    rw (take_item rows i x lt is, put) (same_more (take i rows) copies x y same client who held waiting)
