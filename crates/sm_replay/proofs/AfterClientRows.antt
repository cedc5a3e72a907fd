-- What each effect makes of the rows of clients.
use Rattle.std.proofs.Common.{◌≡◌, ℕ, zero, suc, ◌+◌, ◌-◌, ◌≤◌, ◌<◌, Bool, true, false, ◌||◌, ◌&&◌, ◌==◌, List, []}
use Rattle.std.proofs.Common.{◌∷◌, ◌++◌, refl, ap, sym, ◌∙◌, subst, length, drop, get_or, set, Option, Some, None}
use Rattle.std.proofs.Common.{if◌then◌else◌, arith, cond}
use Rattle.std.specs.Prelude.{nat_lt, nat_le, not, min, filter, option_map, is_some}
use Rattle.std.specs.List.{list_any}
use Rattle.std.proofs.lemmas.Bool.{true≢false}
use Rattle.std.proofs.lemmas.Bool.Decides.{nat_tests}
use Rattle.sm_values.specs.declared.identity.Identity.{Identity}
use Rattle.sm_values.specs.declared.number.Node.{Node}
use Rattle.sm_history.specs.declared.delivery.Delivery.{Delivery}
use Rattle.sm_history.specs.declared.limits.TheConstants.{GREATEST}
use Rattle.sm_history.specs.declared.held.Held.{Held}
use Rattle.sm_history.specs.declared.client_row.ClientRow.{ClientRow}
use Rattle.sm_history.specs.Effects.{Effects, same_node}
use Rattle.sm_history.specs.declared.effect.Effect.TheVariants.{Connects, Dies, Gives, Releases, Delivers, Takes}
use Rattle.sm_history.specs.Clients.{is_live, live_clients, identity_at, next_client}
use Rattle.sm_history.specs.Holdings.{refs_at, is_held, number_at, node_at}
use Rattle.sm_history.specs.Inboxes.{inbox_at}
use Rattle.sm_history.specs.Sound.{Sound, HasOneEach}
use Rattle.sm_history.specs.Following.{MayFollow, MayGive}
use Rattle.sm_history.specs.Tables.{slot, slot_at, client_row_of, clients_of, IsPut, IsPlace, released_slot}
use Rattle.sm_replay.specs.Replaying.{given_slot}
use Rattle.sm_history.specs.Tables.{IsClient, IsRowFor, TracksClients}
use Rattle.sm_history.proofs.Balanced.{number_same, node_same, turned}
use Rattle.sm_history.proofs.Grants.{same_self, held_gives}
use Rattle.sm_history.proofs.HeldAlike.{node_held, node_not_held, node_is, number_is}
use Rattle.sm_history.proofs.Living.{any_live}
use Rattle.sm_history.proofs.Sound.{Numbers, held_releases, is_new, none_live, sound_gives}
use Rattle.sm_history.proofs.AgreeNotices.{number_for_is}
use Rattle.sm_history.proofs.AfterClients.{list_connects, list_dies}
use Rattle.sm_history.proofs.AfterHoldings.{refs_connects, refs_dies, refs_gives, refs_releases, number_gives}
use Rattle.sm_history.proofs.AfterInboxes.{inbox_connects, inbox_dies, inbox_delivers, inbox_takes}
use Rattle.sm_history.proofs.Followed.{sound_follows}
use Rattle.sm_history.proofs.Counted.{one_more}
use Rattle.sm_history.proofs.ClientRows.{by_client, self_same, row_read, row_written, row_pushed, row_gone}
use Rattle.sm_history.proofs.NumbersFit.{below}
use Rattle.std.proofs.lemmas.List.Elements.{filter_agree}

-- ---- rows that stay

-- A client's process, what it holds and what waits for it are the same.
pub record SameClient (d e : Effects) (c : ℕ) : Type 0 where
  pub who : identity_at e c ≡ identity_at d c
  pub held : (k : ℕ) → slot_at e c k ≡ slot_at d c k
  pub waiting : inbox_at e c ≡ inbox_at d c

-- The row of client c has index i.
abbrev pub IsClientPlace : List ClientRow → ℕ → ℕ → Type 0
IsClientPlace rows c i = IsPlace (λ (r : ClientRow). r.client) rows c i

pub client_stays : (d e : Effects) (c : ℕ) (r : ClientRow) → SameClient d e c → IsClient d c r → IsClient e c r
client_stays d e c r s i = record {
  who = i.who ∙ sym s.who;
  held = λ k. i.held k ∙ sym (s.held k);
  waiting = i.waiting ∙ sym s.waiting;
}

row_stays : (d e : Effects) (c : ℕ) (o : Option ClientRow) → SameClient d e c → IsRowFor d c o → IsRowFor e c o
row_stays d e c None s i = tt
row_stays d e c (Some r) s i = client_stays d e c r s i

-- Where an effect leaves each client as it is, the rows stay.
pub rows_stay : (d e : Effects) (rows : List ClientRow) → live_clients e ≡ live_clients d
    → ((c : ℕ) → SameClient d e c) → TracksClients d rows → TracksClients e rows
rows_stay d e rows list same tr = record {
  ids = tr.ids ∙ sym list;
  each = λ c. row_stays d e c (client_row_of rows c) (same c) (tr.each c);
}

ids_set : (rows : List ClientRow) (i : ℕ) (r r' : ClientRow) → i < length rows → r ≡ get_or rows i r
    → r'.client ≡ r.client → clients_of (set rows i r') ≡ clients_of rows
ids_set [] i r r' lt at same = absurd (omega (arith, lt))
ids_set (x ∷ xs) zero r r' lt at same = ap (λ (k : ℕ). k ∷ clients_of xs) (same ∙ ap (λ (v : ClientRow). v.client) at)
ids_set (x ∷ xs) (suc i) r r' lt at same = ap (λ (ks : List ℕ). x.client ∷ ks) (ids_set xs i r r' (omega
    (arith, lt)) at same)

-- One client's row was written, and the others are as they were.
pub tracks_written : (d e : Effects) (rows : List ClientRow) (c i : ℕ) (r r' : ClientRow) → IsClientPlace rows c i
    → r ≡ get_or rows i r → r'.client ≡ r.client → live_clients e ≡ live_clients d
    → ((k : ℕ) → (c == k) ≡ false → SameClient d e k) → (IsClient d c r → IsClient e c r') → TracksClients d rows
    → TracksClients e (set rows i r')
tracks_written d e rows c i r r' place at same list others own tr =
    let changed = row_written _ rows c i r r' place at same in
    record {
      ids = ids_set rows i r r' place.inside at same ∙ tr.ids ∙ sym list;
      each = by_client (λ k. IsRowFor e k (client_row_of (set rows i r') k)) c
          (subst (IsRowFor e c) (sym changed.own)
          (own (subst (IsRowFor d c) (row_read _ rows c i r place at) (tr.each c))))
          (λ k f. subst (IsRowFor e k) (sym (changed.other k f))
          (row_stays d e k (client_row_of rows k) (others k f) (tr.each k)));
    }

pub in_ids : (rows : List ClientRow) (c : ℕ) → list_any (λ y. y == c) (clients_of rows) ≡ is_some (client_row_of rows c)
in_ids [] c = refl
in_ids (r ∷ rs) c = elim (r.client == c) as (λ b. (b || list_any (λ y. y == c) (clients_of rs))
    ≡ is_some (cond b (Some r) (client_row_of rs c))) [ true ↦ refl | false ↦ in_ids rs c ]

-- A live client has a row.
pub live_row : (d : Effects) (rows : List ClientRow) (c : ℕ) → TracksClients d rows → is_live d c ≡ true
    → client_row_of rows c ≡ None → ⊥
live_row d rows c tr live none =
    true≢false (sym (ap (λ (o : Option ClientRow). is_some o) (sym none) ∙ sym (in_ids rows c)
    ∙ ap (list_any (λ y. y == c)) tr.ids ∙ any_live d c ∙ live))

pub not_live : (d : Effects) (rows : List ClientRow) (c : ℕ) → TracksClients d rows
    → list_any (λ y. y == c) (live_clients d) ≡ false → client_row_of rows c ≡ None
not_live d rows c tr none =
    elim (client_row_of rows c) as (λ o. is_some o ≡ false → o ≡ None) [
      | None ↦ λ h. refl
      | Some r ↦ λ h. absurd
          (true≢false h)
    ]
    (sym (in_ids rows c) ∙ ap (list_any (λ y. y == c)) tr.ids ∙ none)

-- ---- what is held under numbers

slot_is : (d : Effects) (c k : ℕ) (n : Node) → HasOneEach d c → is_held d c n ≡ true → number_at d c n ≡ k
    → slot_at d c k ≡ Some (record { node = n; count = refs_at d c n })
slot_is d c k n one held is =
    ap (option_map (λ (m : Node). let h : Held = record { node = m; count = refs_at d c m } in h))
    (node_is d c k n one held is)

slot_none : (d : Effects) (c k : ℕ) → ((n : Node) → is_held d c n ≡ true → number_at d c n ≡ k → ⊥)
    → slot_at d c k ≡ None
slot_none d c k none =
    elim (node_at d c k) as (λ o. node_at d c k ≡ o
    → option_map (λ (m : Node). let h : Held = record { node = m; count = refs_at d c m } in h) o ≡ None) [
      | None ↦ λ e. refl
      | Some n ↦ λ e. let f = node_held d c k n e in absurd (none n f.0 f.1)
    ] refl

pub slots_alike : (d e : Effects) (c k : ℕ) → HasOneEach e c
    → ((n : Node) → is_held d c n ≡ true → number_at d c n ≡ k
    → (is_held e c n ≡ true) × (number_at e c n ≡ k) × (refs_at e c n ≡ refs_at d c n))
    → ((n : Node) → is_held e c n ≡ true → number_at e c n ≡ k → (is_held d c n ≡ true) × (number_at d c n ≡ k))
    → slot_at e c k ≡ slot_at d c k
slots_alike d e c k one on back =
    elim (node_at d c k) as (λ o. node_at d c k ≡ o
    → slot_at e c k ≡ option_map (λ (m : Node). let h : Held = record { node = m; count = refs_at d c m } in h) o) [
      | Some n ↦ λ is.
          let f = node_held d c k n is in
          let g = on n f.0 f.1 in
          slot_is e c k n one g.0 g.1
          ∙ ap (λ (v : ℕ). let o : Option Held = Some (record { node = n; count = v }) in o) g.2
      | None ↦ λ is. slot_none e c k (λ n held at.
          let g = back n held at in
          true≢false (sym (number_is (number_at d c n) k g.1) ∙ node_not_held d c k n is g.0))
    ] refl

-- Where counts and numbers are the same, so is what is held.
pub slots_same : (d e : Effects) (c : ℕ) → HasOneEach e c → ((n : Node) → refs_at e c n ≡ refs_at d c n)
    → ((n : Node) → number_at e c n ≡ number_at d c n) → (k : ℕ) → slot_at e c k ≡ slot_at d c k
slots_same d e c one refs numbers k =
    slots_alike d e c k one
    (λ n held at. (ap (nat_lt 0) (refs n) ∙ held, numbers n ∙ at, refs n))
    (λ n held at. (ap (nat_lt 0) (sym (refs n)) ∙ held, sym (numbers n) ∙ at))

-- ---- clients come and go

pub same_connects : (d : Effects) (n : ℕ) (who : Identity) (k : ℕ) → Sound d → n ≡ next_client d → (n == k) ≡ false
    → SameClient d (Connects n who ∷ d) k
same_connects d n who k s is f =
    let e = Connects n who ∷ d in
    let new = is_new d n is s.fresh in
    let after = sound_follows d (Connects n who) s is in
    record {
      who = rw f refl;
      held = slots_same d e k (after.single k) (λ m. refs_connects d n who k m new) (λ m. refl);
      waiting = inbox_connects d n who k new;
    }

none_held : (v : ℕ) → v ≡ 0 → nat_lt 0 v ≡ true → ⊥
none_held v z h = true≢false (sym h ∙ ap (nat_lt 0) z)

pub new_client : (d : Effects) (n : ℕ) (who : Identity) (r : ClientRow) → Sound d → n ≡ next_client d → r.who ≡ who
    → r.held.items ≡ [] → r.waiting.items ≡ [] → IsClient (Connects n who ∷ d) n r
new_client d n who r s is process held waiting =
    let e = Connects n who ∷ d in
    let new = is_new d n is s.fresh in
    let gone : is_live d n ≡ false = sym (any_live d n) ∙ none_live d n new in
    record {
      who = process ∙ rw (self_same n) refl;
      held = λ k. ap (λ (xs : List (Option Held)). slot xs k) held ∙ sym (slot_none e n k (λ m h at.
          none_held (refs_at e n m) (refs_connects d n who n m new ∙ rw gone refl) h));
      waiting = waiting ∙ sym (inbox_connects d n who n new ∙ rw gone refl);
    }

ids_more : (rows : List ClientRow) (r : ClientRow) → clients_of (rows ++ r ∷ []) ≡ clients_of rows ++ r.client ∷ []
ids_more [] r = refl
ids_more (x ∷ xs) r = ap (λ (ks : List ℕ). x.client ∷ ks) (ids_more xs r)

pub tracks_connects : (d : Effects) (n : ℕ) (who : Identity) (rows : List ClientRow) (r : ClientRow) → Sound d
    → MayFollow d (Connects n who) → r.client ≡ n → r.who ≡ who → r.held.items ≡ [] → r.waiting.items ≡ []
    → TracksClients d rows → TracksClients (Connects n who ∷ d) (rows ++ r ∷ [])
tracks_connects d n who rows r s is own process held waiting tr =
    let e = Connects n who ∷ d in
    let new = is_new d n is s.fresh in
    let none = not_live d rows n tr (none_live d n new) in
    let changed = row_pushed _ rows r (ap (client_row_of rows) own ∙ none) in
    record {
      ids = ids_more rows r ∙ ap (λ (k : ℕ). clients_of rows ++ k ∷ []) own ∙ ap (λ (ks : List ℕ). ks ++ n ∷ []) tr.ids
          ∙ sym (list_connects d n who new);
      each = by_client (λ k. IsRowFor e k (client_row_of (rows ++ r ∷ []) k)) n
          (subst (IsRowFor e n) (sym (ap (client_row_of (rows ++ r ∷ [])) (sym own) ∙ changed.own))
          (new_client d n who r s is process held waiting))
          (λ k f. subst (IsRowFor e k) (sym (changed.other k (ap (λ v. v == k) own ∙ f)))
          (row_stays d e k (client_row_of rows k) (same_connects d n who k s is f) (tr.each k)));
    }

ids_gone : (rows : List ClientRow) (c : ℕ) → clients_of (filter (λ r. not (r.client == c)) rows)
    ≡ filter (λ k. not (k == c)) (clients_of rows)
ids_gone [] c = refl
ids_gone (r ∷ rs) c = elim (r.client == c) as (λ b. clients_of (if not b then r ∷ filter (λ x. not (x.client == c)) rs
    else filter (λ x. not (x.client == c)) rs)
    ≡ (if not b then r.client ∷ filter (λ k. not (k == c)) (clients_of rs) else filter (λ k. not (k == c))
    (clients_of rs)))
    [ true ↦ ids_gone rs c | false ↦ ap (λ (ks : List ℕ). r.client ∷ ks) (ids_gone rs c) ]

pub same_dies : (d : Effects) (c k : ℕ) → Sound d → is_live d c ≡ true → (c == k) ≡ false → SameClient d (Dies c ∷ d) k
same_dies d c k s live f =
    let e = Dies c ∷ d in
    let after = sound_follows d (Dies c) s live in
    record {
      who = refl;
      held = slots_same d e k (after.single k) (λ m. refs_dies d c k m ∙ rw f refl) (λ m. refl);
      waiting = inbox_dies d c k ∙ rw f refl;
    }

pub tracks_dies : (d : Effects) (c : ℕ) (rows : List ClientRow) → Sound d → MayFollow d (Dies c)
    → TracksClients d rows → TracksClients (Dies c ∷ d) (filter (λ r. not (r.client == c)) rows)
tracks_dies d c rows s live tr =
    let e = Dies c ∷ d in
    let left = filter (λ (r : ClientRow). not (r.client == c)) rows in
    let changed = row_gone _ rows c in
    record {
      ids = ids_gone rows c ∙ filter_agree (λ k. not (k == c)) (λ k. not (c == k)) (λ k. ap not (turned k c))
          (clients_of rows) ∙ ap (filter (λ k. not (c == k))) tr.ids
          ∙ sym (list_dies d c);
      each = by_client (λ k. IsRowFor e k (client_row_of left k)) c (subst (IsRowFor e c) (sym changed.own) tt)
          (λ k f. subst (IsRowFor e k) (sym (changed.other k f))
          (row_stays d e k (client_row_of rows k) (same_dies d c k s live f) (tr.each k)));
    }

-- ---- grants

pub sound_given : (d : Effects) (c : ℕ) (n : Node) (r : ℕ) → Sound d → MayGive d c n r → Sound (Gives c n r ∷ d)
sound_given d c n r s may = sound_gives d c n r may.0
    (subst (λ (k : ℕ). Numbers d c n k) (sym may.1) (number_for_is d c n)) s

other_numbers : (d : Effects) (c : ℕ) (n : Node) (r k : ℕ) (m : Node) → Numbers d c n r → (k == r) ≡ false
    → is_held d c m ≡ true → number_at d c m ≡ k → same_node n m ≡ false
other_numbers d c n r k m num f held at =
    elim (same_node n m) as (λ b. same_node n m ≡ b → b ≡ false) [
      | true ↦ λ e.
          let same = node_same n m e in
          let is = num.old (subst (λ (v : Node). is_held d c v ≡ true) (sym same) held) in
          absurd (true≢false (sym (number_is k r (sym at ∙ sym (is ∙ ap (number_at d c) same))) ∙ f))
      | false ↦ λ e. refl
    ] refl

given_back : (d : Effects) (c : ℕ) (n : Node) (r k : ℕ) (m : Node) (t : Bool) → same_node n m ≡ t → (k == r) ≡ false
    → (if t then is_live d c else is_held d c m) ≡ true → (if t then r else number_at d c m) ≡ k
    → (is_held d c m ≡ true) × (number_at d c m ≡ k)
given_back d c n r k m true e f held at = absurd (true≢false (sym (number_is k r (sym at)) ∙ f))
given_back d c n r k m false e f held at = (held, at)

other_gives : (d : Effects) (c : ℕ) (n : Node) (r k : ℕ) → Sound d → MayGive d c n r → Numbers d c n r
    → (k == r) ≡ false → slot_at (Gives c n r ∷ d) c k ≡ slot_at d c k
other_gives d c n r k s may num f =
    let e = Gives c n r ∷ d in
    let after = sound_given d c n r s may in
    slots_alike d e c k (after.single c)
    (λ m held at.
    let apart = other_numbers d c n r k m num f held at in (
      held_gives d c n r c m s.balanced ∙ rw (self_same c, apart) held,
      number_gives d c n r c m ∙ rw (self_same c, apart) at,
      refs_gives d c n r c m s.balanced ∙ rw (self_same c, apart) refl,
    ))
    (λ m held at. given_back d c n r k m (same_node n m) refl f
    (sym (held_gives d c n r c m s.balanced ∙ rw (self_same c) refl) ∙ held)
    (sym (number_gives d c n r c m ∙ rw (self_same c) refl) ∙ at))

own_gives : (d : Effects) (c : ℕ) (n : Node) (r : ℕ) → Sound d → MayGive d c n r
    → slot_at (Gives c n r ∷ d) c r ≡ Some (record { node = n; count = refs_at d c n + 1 })
own_gives d c n r s may =
    let e = Gives c n r ∷ d in
    let after = sound_given d c n r s may in
    slot_is e c r n (after.single c) (held_gives d c n r c n s.balanced ∙ rw (self_same c, same_self n) may.0)
    (number_gives d c n r c n ∙ rw (self_same c, same_self n) refl)
    ∙ ap (λ (v : ℕ). let o : Option Held = Some (record { node = n; count = v }) in o)
    (one_more d c n r s.balanced may.0)

least : (v g : ℕ) → v < g → min v g ≡ v
least v g lt = omega (arith, lt)

-- The slot of the number, after the grant.
given_is : (d : Effects) (c : ℕ) (n : Node) (r : ℕ) → HasOneEach d c → Numbers d c n r
    → nat_lt (refs_at d c n + 1) GREATEST ≡ true
    → given_slot n (slot_at d c r) ≡ Some (record { node = n; count = refs_at d c n + 1 })
given_is d c n r one num fits =
    elim (is_held d c n) as (λ b. is_held d c n ≡ b
    → given_slot n (slot_at d c r) ≡ Some (record { node = n; count = refs_at d c n + 1 })) [
      | true ↦ λ held.
          ap (given_slot n) (slot_is d c r n one held (sym (num.old held)))
          ∙ ap (λ (v : ℕ). let o : Option Held = Some (record { node = n; count = v }) in o)
          (least (refs_at d c n + 1) GREATEST (below (refs_at d c n + 1) GREATEST fits))
      | false ↦ λ held.
          ap (given_slot n) (ap (option_map (λ
          (m : Node). let h : Held = record { node = m; count = refs_at d c m } in h))
          (num.free held))
          ∙ ap (λ (v : ℕ). let o : Option Held = Some (record { node = n; count = v }) in o)
          (let z : refs_at d c n ≡ 0 = grind (arith, nat_tests) in let one : 1 ≡ refs_at d c n + 1 = omega (arith, z)
          in one)
    ] refl

given_case : (b : Bool) (x y z w : Option Held) → (b ≡ true → x ≡ z) → (b ≡ false → y ≡ z) → (if b then x else y) ≡ z
given_case true x y z w a n = a refl
given_case false x y z w a n = n refl

pub same_gives : (d : Effects) (c : ℕ) (n : Node) (r k : ℕ) → Sound d → MayGive d c n r → (c == k) ≡ false
    → SameClient d (Gives c n r ∷ d) k
same_gives d c n r k s may f =
    let e = Gives c n r ∷ d in
    let after = sound_given d c n r s may in
    record {
      who = refl;
      held = slots_same d e k (after.single k) (λ m. refs_gives d c n r k m s.balanced ∙ rw f refl)
          (λ m. number_gives d c n r k m ∙ rw f refl);
      waiting = refl;
    }

pub client_gives : (d : Effects) (c : ℕ) (n : Node) (number : ℕ) (r r' : ClientRow) → Sound d
    → MayGive d c n number → r'.who ≡ r.who → r'.waiting.items ≡ r.waiting.items
    → IsPut r.held.items r'.held.items number (given_slot n (slot r.held.items number)) → IsClient d c r
    → IsClient (Gives c n number ∷ d) c r'
client_gives d c n number r r' s may who waiting put i =
    let num = subst (λ (k : ℕ). Numbers d c n k) (sym may.1) (number_for_is d c n) in
    record {
      who = who ∙ i.who;
      waiting = waiting ∙ i.waiting;
      held = λ k. put k ∙ given_case (k == number) (given_slot n (slot r.held.items number)) (slot r.held.items k)
          (slot_at (Gives c n number ∷ d) c k) None
          (λ is. ap (given_slot n) (i.held number) ∙ given_is d c n number (s.single c) num may.2
          ∙ sym (own_gives d c n number s may)
          ∙ ap (slot_at (Gives c n number ∷ d) c) (sym (number_same k number is)))
          (λ other. i.held k ∙ sym (other_gives d c n number k s may num other));
    }

pub tracks_gives : (d : Effects) (rows : List ClientRow) (c i : ℕ) (n : Node) (number : ℕ) (r r' : ClientRow) → Sound d
    → MayGive d c n number → IsClientPlace rows c i → r ≡ get_or rows i r → r'.client ≡ r.client → r'.who ≡ r.who
    → r'.waiting.items ≡ r.waiting.items
    → IsPut r.held.items r'.held.items number (given_slot n (slot r.held.items number)) → TracksClients d rows
    → TracksClients (Gives c n number ∷ d) (set rows i r')
tracks_gives d rows c i n number r r' s may place at same who waiting put tr =
    tracks_written d (Gives c n number ∷ d) rows c i r r' place at same refl
    (λ k f. same_gives d c n number k s may f)
    (λ own. client_gives d c n number r r' s may who waiting put own) tr

-- ---- releases

less_one : (b : Bool) (v w : ℕ) → w ≡ (if b then v - 1 else v) → b ≡ true → w ≡ v - 1
less_one true v w e is = e
less_one false v w e is = absurd (true≢false (sym is))

own_refs : (d : Effects) (c : ℕ) (n : Node) → refs_at (Releases c n ∷ d) c n ≡ refs_at d c n - 1
own_refs d c n =
    less_one ((c == c) && same_node n n) (refs_at d c n) (refs_at (Releases c n ∷ d) c n) (refs_releases d c n c n)
    (rw (self_same c, same_self n) refl)

other_refs : (d : Effects) (c : ℕ) (n m : Node) → same_node n m ≡ false → refs_at (Releases c n ∷ d) c m ≡ refs_at d c m
other_refs d c n m f = refs_releases d c n c m ∙ rw (self_same c, f) refl

-- What is held under another number isn't the object.
apart_at : (d : Effects) (c : ℕ) (n : Node) (r k : ℕ) (m : Node) → number_at d c n ≡ r → (k == r) ≡ false
    → number_at d c m ≡ k → same_node n m ≡ false
apart_at d c n r k m own f at =
    elim (same_node n m) as (λ b. same_node n m ≡ b → b ≡ false) [
      | true ↦ λ e.
          let same = node_same n m e in
          absurd (true≢false (sym (number_is k r (sym at ∙ sym (sym own ∙ ap (number_at d c) same))) ∙ f))
      | false ↦ λ e. refl
    ] refl

other_releases : (d : Effects) (c : ℕ) (n : Node) (r k : ℕ) → Sound d → MayFollow d (Releases c n)
    → number_at d c n ≡ r → (k == r) ≡ false → slot_at (Releases c n ∷ d) c k ≡ slot_at d c k
other_releases d c n r k s may own f =
    let e = Releases c n ∷ d in
    let after = sound_follows d (Releases c n) s may in
    slots_alike d e c k (after.single c)
    (λ m held at.
    let same = other_refs d c n m (apart_at d c n r k m own f at) in
    (ap (nat_lt 0) same ∙ held, at, same))
    (λ m held at. (held_releases d c n c m held, at))

last_case : (v w : ℕ) → w ≡ v - 1 → nat_le v 1 ≡ true → nat_lt 0 w ≡ true → ⊥
last_case v w e le lt =
    let z : w ≡ 0 = let h : v ≤ 1 = grind (arith, nat_tests) in omega (arith, e, h) in
    none_held w z lt

left_case : (v w : ℕ) → w ≡ v - 1 → nat_le v 1 ≡ false → nat_lt 0 w ≡ true
left_case v w e le =
    let h : 1 < v = grind (arith, nat_tests) in
    let m : 0 < w = omega (arith, e, h) in
    grind (arith, nat_tests)

own_releases : (d : Effects) (c : ℕ) (n : Node) (r : ℕ) (b : Bool) → nat_le (refs_at d c n) 1 ≡ b → Sound d
    → MayFollow d (Releases c n) → number_at d c n ≡ r
    → (let o : Option Held = if b then None else Some (record { node = n; count = refs_at d c n - 1 }) in o)
    ≡ slot_at (Releases c n ∷ d) c r
own_releases d c n r true last s may own =
    let e = Releases c n ∷ d in
    sym (slot_none e c r (λ m held at.
    let same = s.single c n m may.1 (held_releases d c n c m held) (own ∙ sym at) in
    last_case (refs_at d c n) (refs_at e c n) (own_refs d c n) last
    (subst (λ (v : Node). is_held e c v ≡ true) (sym same) held)))
own_releases d c n r false more s may own =
    let e = Releases c n ∷ d in
    let after = sound_follows d (Releases c n) s may in
    sym (slot_is e c r n (after.single c)
    (left_case (refs_at d c n) (refs_at e c n) (own_refs d c n) more) own
    ∙ ap (λ (v : ℕ). let o : Option Held = Some (record { node = n; count = v }) in o) (own_refs d c n))

pub same_releases : (d : Effects) (c : ℕ) (n : Node) (k : ℕ) → Sound d → MayFollow d (Releases c n) → (c == k) ≡ false
    → SameClient d (Releases c n ∷ d) k
same_releases d c n k s may f =
    let e = Releases c n ∷ d in
    let after = sound_follows d (Releases c n) s may in
    record {
      who = refl;
      held = slots_same d e k (after.single k) (λ m. refs_releases d c n k m ∙ rw f refl) (λ m. refl);
      waiting = refl;
    }

pub client_releases : (d : Effects) (c : ℕ) (n : Node) (number : ℕ) (r r' : ClientRow) → Sound d
    → MayFollow d (Releases c n) → node_at d c number ≡ Some n → r'.who ≡ r.who → r'.waiting.items ≡ r.waiting.items
    → IsPut r.held.items r'.held.items number (released_slot (slot r.held.items number)) → IsClient d c r
    → IsClient (Releases c n ∷ d) c r'
client_releases d c n number r r' s may at who waiting put i =
    let own = (node_held d c number n at).1 in
    record {
      who = who ∙ i.who;
      waiting = waiting ∙ i.waiting;
      held = λ k. put k ∙ given_case (k == number) (released_slot (slot r.held.items number)) (slot r.held.items k)
          (slot_at (Releases c n ∷ d) c k) None
          (λ is. ap released_slot (i.held number ∙ slot_is d c number n (s.single c) may.1 own)
          ∙ own_releases d c n number (nat_le (refs_at d c n) 1) refl s may own
          ∙ ap (slot_at (Releases c n ∷ d) c) (sym (number_same k number is)))
          (λ other. i.held k ∙ sym (other_releases d c n number k s may own other));
    }

pub tracks_releases : (d : Effects) (rows : List ClientRow) (c i : ℕ) (n : Node) (number : ℕ) (r r' : ClientRow)
    → Sound d → MayFollow d (Releases c n) → node_at d c number ≡ Some n → IsClientPlace rows c i → r ≡ get_or rows i r
    → r'.client ≡ r.client → r'.who ≡ r.who → r'.waiting.items ≡ r.waiting.items
    → IsPut r.held.items r'.held.items number (released_slot (slot r.held.items number)) → TracksClients d rows
    → TracksClients (Releases c n ∷ d) (set rows i r')
tracks_releases d rows c i n number r r' s may there place at same who waiting put tr =
    tracks_written d (Releases c n ∷ d) rows c i r r' place at same refl
    (λ k f. same_releases d c n k s may f)
    (λ own. client_releases d c n number r r' s may there who waiting put own) tr

-- ---- deliveries

pub tracks_delivers : (d : Effects) (rows : List ClientRow) (c i : ℕ) (x : Delivery) (r r' : ClientRow) → Sound d
    → is_live d c ≡ true → IsClientPlace rows c i → r ≡ get_or rows i r → r'.client ≡ r.client → r'.who ≡ r.who
    → r'.held.items ≡ r.held.items → r'.waiting.items ≡ r.waiting.items ++ x ∷ [] → TracksClients d rows
    → TracksClients (Delivers c x ∷ d) (set rows i r')
tracks_delivers d rows c i x r r' s live place at same who held waiting tr =
    let e = Delivers c x ∷ d in
    tracks_written d e rows c i r r' place at same refl
    (λ k f. record { who = refl; held = λ j. refl; waiting = inbox_delivers d c x k s.taken ∙ rw f refl })
    (λ own. record {
      who = who ∙ own.who;
      held = λ k. ap (λ (xs : List (Option Held)). slot xs k) held ∙ own.held k;
      waiting = waiting ∙ ap (λ (xs : List Delivery). xs ++ x ∷ []) own.waiting
          ∙ sym (inbox_delivers d c x c s.taken ∙ rw (self_same c, live) refl);
    }) tr

pub tracks_takes : (d : Effects) (rows : List ClientRow) (c i : ℕ) (r r' : ClientRow)
    → IsClientPlace rows c i → r ≡ get_or rows i r → r'.client ≡ r.client → r'.who ≡ r.who
    → r'.held.items ≡ r.held.items → r'.waiting.items ≡ drop 1 r.waiting.items → TracksClients d rows
    → TracksClients (Takes c ∷ d) (set rows i r')
tracks_takes d rows c i r r' place at same who held waiting tr =
    let e = Takes c ∷ d in
    tracks_written d e rows c i r r' place at same refl
    (λ k f. record { who = refl; held = λ j. refl; waiting = inbox_takes d c k ∙ rw f refl })
    (λ own. record {
      who = who ∙ own.who;
      held = λ k. ap (λ (xs : List (Option Held)). slot xs k) held ∙ own.held k;
      waiting = waiting ∙ ap (drop 1) own.waiting ∙ sym (inbox_takes d c c ∙ rw (self_same c) refl);
    }) tr
