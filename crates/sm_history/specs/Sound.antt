-- Soundness of the effects of every lawful history: no effect concerns a client that hasn't connected, and nothing is
-- released or taken that wasn't there.
use Rattle.std.specs.Prelude.{ℕ, ◌≡◌, ◌≤◌, ◌<◌, Bool, true, false, ◌==◌, List, [], ◌∷◌, Some, is_some, count_by}
use Rattle.std.specs.Prelude.{filter_map, length}
use Rattle.std.specs.List.{list_any}
use Rattle.sm_values.specs.declared.number.Node.{Node}
use Rattle.sm_history.specs.declared.delivery.Delivery.{Delivery}
use Rattle.sm_history.specs.Effects.{Effect, Effects, Service, Connects, Dies, Gives, Releases, Watches, Unwatches}
use Rattle.sm_history.specs.Effects.{Delivers, Takes}
use Rattle.sm_history.specs.Clients.{next_client, live_clients}
use Rattle.sm_history.specs.Holdings.{number_given, is_release_of, is_held, number_at}
use Rattle.sm_history.specs.Services.{last_said}
use Rattle.sm_history.specs.Inboxes.{delivered_to, is_take_of}

-- An effect concerns client k.
abbrev pub names : ℕ → Effect → Bool
names k (Connects c who) = c == k
names k (Dies c) = c == k
names k (Gives c n r) = c == k
names k (Releases c n) = c == k
names k (Watches w) = w.client == k
names k (Unwatches w) = w.client == k
names k (Delivers c x) = c == k
names k (Takes c) = c == k
names k _ = false

-- No effect concerns a client that hasn't connected.
abbrev pub IsFresh : Effects → Type 0
IsFresh d = (k : ℕ) → next_client d ≤ k → list_any (names k) d ≡ false

-- The owner of each object that was added under a name has connected.
abbrev pub IsOwned : Effects → Type 0
IsOwned d = (name : List ℕ) (s : Service) → last_said d name ≡ Some s → s.node.owner.0 < next_client d

-- An object was granted to a client this often.
abbrev pub granted : Effects → ℕ → Node → ℕ
granted d c n = count_by (λ x. is_some (number_given c n x)) d

-- A client released an object this often.
abbrev pub released : Effects → ℕ → Node → ℕ
released d c n = count_by (is_release_of c n) d

-- No more grants are released than were made.
abbrev pub IsBalanced : Effects → Type 0
IsBalanced d = (c : ℕ) (n : Node) → released d c n ≤ granted d c n

-- A client holds no two objects under one number.
abbrev pub HasOneEach : Effects → ℕ → Type 0
HasOneEach d c = (n m : Node) → is_held d c n ≡ true → is_held d c m ≡ true → number_at d c n ≡ number_at d c m → n ≡ m

-- These are the deliveries to a client, newest first.
abbrev pub deliveries : Effects → ℕ → List Delivery
deliveries d c = filter_map (delivered_to c) d

-- A client took this many deliveries.
abbrev pub takes : Effects → ℕ → ℕ
takes d c = count_by (is_take_of c) d

-- No client took more than was delivered to it.
abbrev pub IsTakenFrom : Effects → Type 0
IsTakenFrom d = (c : ℕ) → takes d c ≤ length (deliveries d c)

-- Each number is in the list once.
abbrev pub IsOnce : List ℕ → Type 0
IsOnce [] = Unit {0}
IsOnce (x ∷ xs) = (list_any (λ y. y == x) xs ≡ false) × IsOnce xs

-- Effects are sound.
pub record Sound (d : Effects) : Type 0 where
  pub fresh : IsFresh d
  pub owned : IsOwned d
  pub balanced : IsBalanced d
  pub single : (c : ℕ) → HasOneEach d c
  pub taken : IsTakenFrom d
  pub once : IsOnce (live_clients d)
