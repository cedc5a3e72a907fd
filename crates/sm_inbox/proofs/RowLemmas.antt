-- Room in inboxes, and what a change of one leaves of the others.
use Rattle.std.proofs.Common.{◌≡◌, ℕ, ◌+◌, ◌-◌, ◌<◌, ◌≤◌, true, false, ◌==◌, List, [], ◌∷◌, ◌++◌, refl, ap, sym, ◌∙◌}
use Rattle.std.proofs.Common.{length, get_or, set, drop, Option, Some, None, arith, length-append, length-drop}
use Rattle.std.specs.Prelude.{nat_lt, is_some, MatchOption, IsTrue, IsSome, IfSome}
use Rattle.std.specs.Borrow.{Bor}
use Rattle.std.specs.Option.{option_to_list}
use Rattle.std.proofs.lemmas.Bool.{true≢false, false≢true}
use Rattle.std.proofs.lemmas.Bool.Decides.{nat_tests}
use Rattle.sm_history.specs.declared.delivery.Delivery.{Delivery}
use Rattle.sm_history.specs.Tables.{IsChanged, IsPlace}
use Rattle.sm_history.proofs.ClientRows.{by_client, row_read, row_written}
use Rattle.sm_inbox.specs.declared.inbox.Inbox.{Inbox}
use Rattle.sm_inbox.specs.Rows.{inbox_of, room_in, waiting_in}

-- This is the client of an inbox.
abbrev pub client : Inbox → ℕ
client r = r.client

-- ---- room

pub room_read : (o : Option Inbox) (r : Inbox) → o ≡ Some r → room_in o ≡ 256 - r.waiting.len
room_read o r e = ap room_in e ∙ ap (λ n. 256 - n) (sym r.waiting.ok.0)

pub waiting_read : (o : Option Inbox) (r : Inbox) → o ≡ Some r → length (waiting_in o) ≡ r.waiting.len
waiting_read o r e = ap (λ v. length (waiting_in v)) e ∙ sym r.waiting.ok.0

-- The room of the others stays where one row changed.
pub room_others : (rows rows' : List Inbox) (c : ℕ) (o : Option Inbox) → IsChanged client rows rows' c o → (k : ℕ)
    → (c == k) ≡ false → room_in (inbox_of rows' k) ≡ room_in (inbox_of rows k)
room_others rows rows' c o ch k f = ap room_in (ch.other k f)

pub lets_put : (n m : ℕ) → m ≡ 256 - n → (IsTrue (nat_lt n 256) → 0 < m) × (0 < m → IsTrue (nat_lt n 256))
lets_put n m e = grind (arith, nat_tests)

pub none_put : (m : ℕ) → m ≡ 0 → (IsTrue false → 0 < m) × (0 < m → IsTrue false)
none_put m e = grind (arith, nat_tests)

pub room_open : (o : Option Inbox) → is_some o ≡ true → room_in o ≡ 256 - length (waiting_in o)
room_open None e = absurd (true≢false (sym e))
room_open (Some r) e = refl

-- ---- an inbox

pub one_more : (rows : List Inbox) (c i : ℕ) (r r' : Inbox) (x : Delivery) → IsPlace client rows c i
    → r ≡ get_or rows i r
    → r'.client ≡ r.client → r'.waiting.items ≡ r.waiting.items ++ x ∷ [] → 0 < room_in (inbox_of rows c)
    → room_in (inbox_of (set rows i r') c) + 1 ≡ room_in (inbox_of rows c)
one_more rows c i r r' x at e same put lt =
    let n = ap (length {A = Delivery}) put ∙ length-append r.waiting.items (x ∷ []) in
    let old = ap room_in (row_read _ rows c i r at e) in
    let new = ap room_in (row_written _ rows c i r r' at e same).own in
    omega (arith, n, lt, old, new)

-- What the front of a queue is.
pub front_is : (xs : List Delivery) (n : ℕ) (o : Option (Bor Delivery)) → n ≡ length xs
    → (IsSome o → 0 < n) × (0 < n → IsSome o)
    → IfSome o (λ x. x.now ≡ get_or xs 0 x.now) → MatchOption o (xs ≡ []) (λ x. xs ≡ x.now ∷ drop 1 xs)
front_is [] n None e some here = refl
front_is [] n (Some x) e some here = let lt = some.0 refl in absurd (omega (arith, lt, e))
front_is (y ∷ ys) n None e some here = absurd (false≢true (some.1 (omega (arith, e))))
front_is (y ∷ ys) n (Some x) e some here = ap (λ v. v ∷ ys) (sym here)

-- What a pop leaves.
pub popped : (xs ys : List Delivery) (n : ℕ) (o : Option Delivery) → n ≡ length xs
    → (IsSome o → 0 < n) × (0 < n → IsSome o)
    → xs ≡ option_to_list o ++ ys → MatchOption o ((xs ≡ []) × (ys ≡ [])) (λ x. xs ≡ x ∷ ys)
popped [] ys n None e some is = (refl, sym is)
popped [] ys n (Some x) e some is = let lt = some.0 refl in absurd (omega (arith, lt, e))
popped (y ∷ zs) ys n None e some is = absurd (false≢true (some.1 (omega (arith, e))))
popped xs ys n (Some x) e some is = is

-- No inbox loses room where the first of one was taken.
pub room_kept : (rows : List Inbox) (c i : ℕ) (r r' : Inbox) → IsPlace client rows c i → r ≡ get_or rows i r
    → r'.client ≡ r.client → r'.waiting.items ≡ drop 1 r.waiting.items → (k : ℕ)
    → room_in (inbox_of rows k) ≤ room_in (inbox_of (set rows i r') k)
room_kept rows c i r r' at e same rest =
    let changed = row_written _ rows c i r r' at e same in
    by_client (λ k. room_in (inbox_of rows k) ≤ room_in (inbox_of (set rows i r') k)) c
    (let n = ap (length {A = Delivery}) rest ∙ length-drop 1 r.waiting.items in
    let old = ap room_in (row_read _ rows c i r at e) in
    let new = ap room_in changed.own in
    omega (arith, n, old, new))
    (λ k f. let e' = room_others rows (set rows i r') c (Some r') changed k f in omega (arith, e'))

-- The same clients have inboxes where what waits in one changed.
pub open_written : (rows : List Inbox) (c i : ℕ) (r r' : Inbox) → IsPlace client rows c i → r ≡ get_or rows i r
    → r'.client ≡ r.client → (k : ℕ) → is_some (inbox_of (set rows i r') k) ≡ is_some (inbox_of rows k)
open_written rows c i r r' at e same =
    let changed = row_written _ rows c i r r' at e same in
    by_client (λ k. is_some (inbox_of (set rows i r') k) ≡ is_some (inbox_of rows k)) c
    (ap (λ (o : Option Inbox). is_some o) changed.own ∙
    sym (ap (λ (o : Option Inbox). is_some o) (row_read _ rows c i r at e)))
    (λ k f. ap (λ (o : Option Inbox). is_some o) (changed.other k f))

pub open_pushed : (rows rows' : List Inbox) (c : ℕ) (r : Inbox) → IsChanged client rows rows' c (Some r) → (k : ℕ)
    → is_some (inbox_of rows k) ≡ true → is_some (inbox_of rows' k) ≡ true
open_pushed rows rows' c r changed =
    by_client (λ k. is_some (inbox_of rows k) ≡ true → is_some (inbox_of rows' k) ≡ true) c
    (λ was. ap (λ (o : Option Inbox). is_some o) changed.own)
    (λ k f was. ap (λ (o : Option Inbox). is_some o) (changed.other k f) ∙ was)
