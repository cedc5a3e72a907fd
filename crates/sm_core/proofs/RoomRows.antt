-- The room left in inboxes, where one row changed.
use Rattle.std.proofs.Common.{◌≡◌, ℕ, zero, suc, ◌<◌, Bool, true, false, ◌==◌, List, [], ◌∷◌, ◌++◌, refl, ap, subst}
use Rattle.std.proofs.Common.{cond}
use Rattle.std.proofs.Common.{Option, Some, None, get_or, set, arith}
use Rattle.std.specs.Prelude.{nat_eq, nat_le, max, option_map}
use Rattle.std.specs.List.{find, list_all}
use Rattle.std.proofs.lemmas.Bool.{and_parts}
use Rattle.std.proofs.lemmas.Bool.Decides.{nat_tests}
use Rattle.sm_history.specs.Tables.{IsChanged}
use Rattle.sm_core.specs.declared.inbox_rooms.InboxRoom.{InboxRoom}
use Rattle.sm_core.specs.InboxRooms.{left_of, AreUpTo}

-- This is the client of a row.
abbrev pub client : InboxRoom → ℕ
client r = r.client

-- A row is of client c.
abbrev pub is_of : ℕ → InboxRoom → Bool
is_of c r = r.client == c

-- This is the room of a row, if there is one.
abbrev room : Option InboxRoom → Option ℕ
room = option_map (λ r. r.left)

pub left_changed : (rows rows' : List InboxRoom) (c : ℕ) (r : InboxRoom) → IsChanged client rows rows' c (Some r)
    → (k : ℕ) → left_of rows' k ≡ cond (nat_eq c k) (Some r.left) (left_of rows k)
left_changed rows rows' c r changed k =
    elim (nat_eq c k) as (λ b. nat_eq c k ≡ b → left_of rows' k ≡ cond b (Some r.left) (left_of rows k)) [
      | true ↦ λ e.
          let same : c ≡ k = grind (arith, nat_tests) in
          subst (λ q. left_of rows' q ≡ Some r.left) same (ap room changed.own)
      | false ↦ λ e. ap room (changed.other k e)
    ] refl

-- A client that is newer than all rows' has none.
pub none_newer : (rows : List InboxRoom) (n c : ℕ) → AreUpTo n rows → n < c → find (is_of c) rows ≡ None
none_newer [] n c up lt = refl
none_newer (r ∷ rs) n c up lt =
    let p = and_parts (nat_le r.client n) (list_all (λ x. nat_le x.client n) rs) up in
    let le = p.0 in
    let other : (r.client == c) ≡ false = grind (arith, nat_tests, le, lt) in
    rw other (none_newer rs n c p.1 lt)

pub up_pushed : (rows : List InboxRoom) (r : InboxRoom) (n : ℕ) → AreUpTo n rows
    → AreUpTo (max n r.client) (rows ++ r ∷ [])
up_pushed [] r n up =
    let own : nat_le r.client (max n r.client) ≡ true = grind (arith, nat_tests) in
    rw own refl
up_pushed (x ∷ xs) r n up =
    let p = and_parts (nat_le x.client n) (list_all (λ y. nat_le y.client n) xs) up in
    let le = p.0 in
    let still : nat_le x.client (max n r.client) ≡ true = grind (arith, nat_tests, le) in
    rw (still, up_pushed xs r n p.1) refl

pub up_written : (rows : List InboxRoom) (i n : ℕ) (r d : InboxRoom) → r.client ≡ (get_or rows i d).client
    → AreUpTo n rows → AreUpTo n (set rows i r)
up_written [] i n r d e up = up
up_written (x ∷ xs) zero n r d e up = rw e up
up_written (x ∷ xs) (suc i) n r d e up =
    let p = and_parts (nat_le x.client n) (list_all (λ y. nat_le y.client n) xs) up in
    rw (p.0, up_written xs i n r d e p.1) refl
