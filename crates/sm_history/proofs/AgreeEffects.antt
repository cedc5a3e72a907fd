-- Tables that agree go on to agree, effect by effect.
use Rattle.std.proofs.Common.{◌≡◌, ℕ, ◌+◌, Bool, true, false, ◌&&◌, ◌==◌, List, [], ◌∷◌, ◌++◌, refl, ap, sym, ◌∙◌}
use Rattle.std.proofs.Common.{length, Option, Some, None, if◌then◌else◌}
use Rattle.std.specs.Prelude.{nat_lt, not, filter, unwrap_or}
use Rattle.sm_values.specs.declared.number.Node.{Node}
use Rattle.sm_values.specs.declared.identity.Identity.{Identity}
use Rattle.sm_policy.specs.Policy.{Policy}
use Rattle.sm_history.specs.declared.delivery.Delivery.{Delivery}
use Rattle.sm_history.specs.Effects.{Effects, Service, Watch, Opens, Sets, Connects, Dies, Adds, Removes, Gives}
use Rattle.sm_history.specs.Effects.{Releases, Watches, Unwatches, Delivers, Takes, same_node}
use Rattle.sm_history.specs.Clients.{is_live, next_client, identity_at, manager_at, policy_at, version_at}
use Rattle.sm_history.specs.Holdings.{refs_at, is_held, number_at, node_at, free_number}
use Rattle.sm_history.specs.Services.{service_at, watches_at}
use Rattle.sm_history.specs.Inboxes.{inbox_at}
use Rattle.sm_history.specs.Agreeing.{Agree}
use Rattle.sm_history.proofs.Grants.{held_gives}
use Rattle.sm_history.proofs.HeldAlike.{nodes_alike, free_alike}
use Rattle.sm_history.proofs.AfterClients.{live_connects, live_dies, list_connects, list_dies}
use Rattle.sm_history.proofs.AfterHoldings.{refs_connects, refs_dies, refs_gives, refs_releases, number_gives}
use Rattle.sm_history.proofs.AfterNames.{service_connects, service_dies, unless_owned, service_adds, service_removes}
use Rattle.sm_history.proofs.AfterWatches.{watches_connects, watches_dies, watches_watches, watches_unwatches}
use Rattle.sm_history.proofs.AfterInboxes.{inbox_connects, inbox_dies, inbox_delivers, inbox_takes}
use Rattle.sm_history.proofs.Sound.{Numbers, Waits, held_connects, held_dies, held_releases, is_new, sound_opens}
use Rattle.sm_history.proofs.Sound.{sound_sets, sound_connects, sound_dies, sound_adds, sound_removes, sound_gives}
use Rattle.sm_history.proofs.Sound.{sound_releases, sound_watches, sound_unwatches, sound_delivers, sound_takes}
use Rattle.std.proofs.lemmas.Bool.{and_parts}
use Rattle.sm_history.specs.Sound.{Sound}

-- Two lists of effects that agree, both as lawful histories leave them.
pub record Sim (d e : Effects) : Type 0 where
  pub agree : Agree d e
  pub left : Sound d
  pub right : Sound e

pub held_alike : (d e : Effects) (c : ℕ) (n : Node) → Agree d e → is_held d c n ≡ is_held e c n
held_alike d e c n a = ap (nat_lt 0) (a.refs c n)

-- ---- policies and the manager

agree_opens : (d e : Effects) (who : Identity) → Agree d e → Agree (Opens who ∷ d) (Opens who ∷ e)
agree_opens d e who a = let manager : manager_at (Opens who ∷ d) ≡ manager_at (Opens who ∷ e) = refl in assumption

agree_sets : (d e : Effects) (p : Policy) → Agree d e → Agree (Sets p ∷ d) (Sets p ∷ e)
agree_sets d e p a =
    let policy : policy_at (Sets p ∷ d) ≡ policy_at (Sets p ∷ e) = refl in
    let version : version_at (Sets p ∷ d) ≡ version_at (Sets p ∷ e) = ap (λ v. v + 1) a.version in assumption

-- ---- clients

identity_case : (t : Bool) (who x y : Identity) → (t ≡ false → x ≡ y)
    → unwrap_or (let o : Option Identity = if t then Some who else None in o) x
    ≡ unwrap_or (let o : Option Identity = if t then Some who else None in o) y
identity_case true who x y same = refl
identity_case false who x y same = same refl

agree_connects : (d e : Effects) (n : ℕ) (who : Identity) → n ≡ next_client d → n ≡ next_client e → Sound d → Sound e
    → Agree d e → Agree (Connects n who ∷ d) (Connects n who ∷ e)
agree_connects d e n who is is' s t a =
    let new = is_new d n is s.fresh in
    let new' = is_new e n is' t.fresh in
    record {
      policy = a.policy;
      version = a.version;
      manager = a.manager;
      clients = ap (λ v. v + 1) a.clients;
      lives = λ c. rw (live_connects d n who c new, live_connects e n who c new', a.lives c) refl;
      live_list = list_connects d n who new ∙ ap (λ xs. xs ++ n ∷ []) a.live_list ∙ sym (list_connects e n who new');
      who = λ c live. identity_case (n == c) who (identity_at d c) (identity_at e c)
          (λ f. a.who c (rw f at (sym (live_connects d n who c new) ∙ live)));
      refs = λ c m. refs_connects d n who c m new ∙ a.refs c m ∙ sym (refs_connects e n who c m new');
      numbers = λ c m held. a.numbers c m (sym (held_connects d n who c m new) ∙ held);
      services = λ name. service_connects d n who name is s.owned ∙ a.services name ∙
          sym (service_connects e n who name is' t.owned);
      watches = watches_connects d n who new ∙ a.watches ∙ sym (watches_connects e n who new');
      inboxes = λ c. inbox_connects d n who c new ∙ a.inboxes c ∙ sym (inbox_connects e n who c new');
    }

agree_dies : (d e : Effects) (c : ℕ) → Agree d e → Agree (Dies c ∷ d) (Dies c ∷ e)
agree_dies d e c a = record {
  policy = a.policy;
  version = a.version;
  manager = a.manager;
  clients = a.clients;
  lives = λ k. live_dies d c k ∙ ap (λ l. l && not (c == k)) (a.lives k) ∙ sym (live_dies e c k);
  live_list = list_dies d c ∙ ap (filter (λ k. not (c == k))) a.live_list ∙ sym (list_dies e c);
  who = λ k live. a.who k (and_parts (is_live d k) (not (c == k)) (sym (live_dies d c k) ∙ live)).0;
  refs = λ k n. rw (refs_dies d c k n, refs_dies e c k n, a.refs k n) refl;
  numbers = λ k m held. a.numbers k m (held_dies d c k m held);
  services = λ name. service_dies d c name ∙ ap (unless_owned c) (a.services name) ∙ sym (service_dies e c name);
  watches = watches_dies d c ∙ ap (filter (λ (w : Watch). not (c == w.client))) a.watches ∙ sym (watches_dies e c);
  inboxes = λ k. rw (inbox_dies d c k, inbox_dies e c k, a.inboxes k) refl;
}

-- ---- names

agree_adds : (d e : Effects) (name : List ℕ) (s : Service) → Agree d e → Agree (Adds name s ∷ d) (Adds name s ∷ e)
agree_adds d e name s a =
    let services : (x : List ℕ) → service_at (Adds name s ∷ d) x ≡ service_at (Adds name s ∷ e) x =
    λ x. rw (service_adds d name s x, service_adds e name s x, a.lives s.node.owner.0, a.services x) refl in assumption

agree_removes : (d e : Effects) (name : List ℕ) → Agree d e → Agree (Removes name ∷ d) (Removes name ∷ e)
agree_removes d e name a =
    let services : (x : List ℕ) → service_at (Removes name ∷ d) x ≡ service_at (Removes name ∷ e) x =
    λ x. rw (service_removes d name x, service_removes e name x, a.services x) refl in assumption

-- ---- holdings

number_case : (b : Bool) (r x y : ℕ) → (b ≡ false → x ≡ y) → (if b then r else x) ≡ (if b then r else y)
number_case true r x y same = refl
number_case false r x y same = same refl

agree_gives : (d e : Effects) (c : ℕ) (n : Node) (r : ℕ) → Sound d → Sound e → Agree d e
    → Agree (Gives c n r ∷ d) (Gives c n r ∷ e)
agree_gives d e c n r s t a =
    let refs : (k : ℕ) (m : Node) → refs_at (Gives c n r ∷ d) k m ≡ refs_at (Gives c n r ∷ e) k m =
    λ k m. rw (refs_gives d c n r k m s.balanced, refs_gives e c n r k m t.balanced, a.refs k m, a.lives k) refl in
    let numbers : (k : ℕ) (m : Node) → is_held (Gives c n r ∷ d) k m ≡ true → number_at (Gives c n r ∷ d) k m ≡
    number_at (Gives c n r ∷ e) k m =
    λ k m held. number_gives d c n r k m
    ∙ number_case ((c == k) && same_node n m) r (number_at d k m) (number_at e k m)
    (λ f. a.numbers k m (rw f at (sym (held_gives d c n r k m s.balanced) ∙ held)))
    ∙ sym (number_gives e c n r k m) in assumption

agree_releases : (d e : Effects) (c : ℕ) (n : Node) → Agree d e → Agree (Releases c n ∷ d) (Releases c n ∷ e)
agree_releases d e c n a =
    let refs : (k : ℕ) (m : Node) → refs_at (Releases c n ∷ d) k m ≡ refs_at (Releases c n ∷ e) k m =
    λ k m. rw (refs_releases d c n k m, refs_releases e c n k m, a.refs k m) refl in
    let numbers : (k : ℕ) (m : Node) → is_held (Releases c n ∷ d) k m ≡ true → number_at (Releases c n ∷ d) k m ≡
    number_at (Releases c n ∷ e) k m =
    λ k m held. a.numbers k m (held_releases d c n k m held) in assumption

-- ---- watches and inboxes

agree_watches : (d e : Effects) (w : Watch) → Agree d e → Agree (Watches w ∷ d) (Watches w ∷ e)
agree_watches d e w a =
    let watches : watches_at (Watches w ∷ d) ≡ watches_at (Watches w ∷ e) =
    rw (watches_watches d w, watches_watches e w, a.watches, a.lives w.client) refl in assumption

agree_unwatches : (d e : Effects) (w : Watch) → Agree d e → Agree (Unwatches w ∷ d) (Unwatches w ∷ e)
agree_unwatches d e w a =
    let watches : watches_at (Unwatches w ∷ d) ≡ watches_at (Unwatches w ∷ e) =
    rw (watches_unwatches d w, watches_unwatches e w, a.watches) refl in assumption

agree_delivers : (d e : Effects) (c : ℕ) (x : Delivery) → Sound d → Sound e → Agree d e
    → Agree (Delivers c x ∷ d) (Delivers c x ∷ e)
agree_delivers d e c x s t a =
    let inboxes : (k : ℕ) → inbox_at (Delivers c x ∷ d) k ≡ inbox_at (Delivers c x ∷ e) k =
    λ k. rw (inbox_delivers d c x k s.taken, inbox_delivers e c x k t.taken, a.inboxes k, a.lives k) refl in assumption

agree_takes : (d e : Effects) (c : ℕ) → Agree d e → Agree (Takes c ∷ d) (Takes c ∷ e)
agree_takes d e c a =
    let inboxes : (k : ℕ) → inbox_at (Takes c ∷ d) k ≡ inbox_at (Takes c ∷ e) k =
    λ k. rw (inbox_takes d c k, inbox_takes e c k, a.inboxes k) refl in assumption

-- ---- both at once

sim : {d e : Effects} → Agree d e → Sound d → Sound e → Sim d e
sim a l r = record { agree = a; left = l; right = r }

pub sim_opens : (d e : Effects) (who : Identity) → Sim d e → Sim (Opens who ∷ d) (Opens who ∷ e)
sim_opens d e who s = sim (agree_opens d e who s.agree) (sound_opens d who s.left) (sound_opens e who s.right)

pub sim_sets : (d e : Effects) (p : Policy) → Sim d e → Sim (Sets p ∷ d) (Sets p ∷ e)
sim_sets d e p s = sim (agree_sets d e p s.agree) (sound_sets d p s.left) (sound_sets e p s.right)

pub sim_connects : (d e : Effects) (n : ℕ) (who : Identity) → n ≡ next_client d → Sim d e
    → Sim (Connects n who ∷ d) (Connects n who ∷ e)
sim_connects d e n who is s =
    let is' : n ≡ next_client e = is ∙ ap (λ v. v + 1) s.agree.clients in
    sim (agree_connects d e n who is is' s.left s.right s.agree) (sound_connects d n who is s.left)
    (sound_connects e n who is' s.right)

pub sim_dies : (d e : Effects) (c : ℕ) → is_live d c ≡ true → Sim d e → Sim (Dies c ∷ d) (Dies c ∷ e)
sim_dies d e c live s = sim (agree_dies d e c s.agree) (sound_dies d c live s.left)
    (sound_dies e c (sym (s.agree.lives c) ∙ live) s.right)

pub sim_adds : (d e : Effects) (name : List ℕ) (t : Service) → is_live d t.node.owner.0 ≡ true → Sim d e
    → Sim (Adds name t ∷ d) (Adds name t ∷ e)
sim_adds d e name t live s =
    sim (agree_adds d e name t s.agree) (sound_adds d name t live s.left)
    (sound_adds e name t (sym (s.agree.lives t.node.owner.0) ∙ live) s.right)

pub sim_removes : (d e : Effects) (name : List ℕ) → Sim d e → Sim (Removes name ∷ d) (Removes name ∷ e)
sim_removes d e name s = sim (agree_removes d e name s.agree) (sound_removes d name s.left)
    (sound_removes e name s.right)

-- ---- what is looked up

pub sim_held : (d e : Effects) (c : ℕ) (n : Node) → Sim d e → is_held d c n ≡ is_held e c n
sim_held d e c n s = held_alike d e c n s.agree

pub sim_nodes : (d e : Effects) (c r : ℕ) → Sim d e → node_at d c r ≡ node_at e c r
sim_nodes d e c r s = nodes_alike d e c r (λ n. held_alike d e c n s.agree) (s.agree.numbers c) (s.right.single c)

pub sim_free : (d e : Effects) (c : ℕ) → Sim d e → free_number d c ≡ free_number e c
sim_free d e c s = free_alike d e c (λ n. held_alike d e c n s.agree) (s.agree.numbers c) (s.right.single c)

numbers_alike : (d e : Effects) (c : ℕ) (n : Node) (r : ℕ) → Sim d e → Numbers d c n r → Numbers e c n r
numbers_alike d e c n r s num = record {
  old = λ h. let h' = sim_held d e c n s ∙ h in num.old h' ∙ s.agree.numbers c n h';
  free = λ h. sym (sim_nodes d e c r s) ∙ num.free (sim_held d e c n s ∙ h);
}

pub sim_gives : (d e : Effects) (c : ℕ) (n : Node) (r : ℕ) → is_live d c ≡ true → Numbers d c n r → Sim d e
    → Sim (Gives c n r ∷ d) (Gives c n r ∷ e)
sim_gives d e c n r live num s =
    sim (agree_gives d e c n r s.left s.right s.agree) (sound_gives d c n r live num s.left)
    (sound_gives e c n r (sym (s.agree.lives c) ∙ live) (numbers_alike d e c n r s num) s.right)

pub sim_releases : (d e : Effects) (c : ℕ) (n : Node) → is_live d c ≡ true → is_held d c n ≡ true → Sim d e
    → Sim (Releases c n ∷ d) (Releases c n ∷ e)
sim_releases d e c n live held s =
    sim (agree_releases d e c n s.agree) (sound_releases d c n live held s.left)
    (sound_releases e c n (sym (s.agree.lives c) ∙ live) (sym (sim_held d e c n s) ∙ held) s.right)

pub sim_watches : (d e : Effects) (w : Watch) → is_live d w.client ≡ true → Sim d e
    → Sim (Watches w ∷ d) (Watches w ∷ e)
sim_watches d e w live s =
    sim (agree_watches d e w s.agree) (sound_watches d w live s.left)
    (sound_watches e w (sym (s.agree.lives w.client) ∙ live) s.right)

pub sim_unwatches : (d e : Effects) (w : Watch) → is_live d w.client ≡ true → Sim d e
    → Sim (Unwatches w ∷ d) (Unwatches w ∷ e)
sim_unwatches d e w live s =
    sim (agree_unwatches d e w s.agree) (sound_unwatches d w live s.left)
    (sound_unwatches e w (sym (s.agree.lives w.client) ∙ live) s.right)

pub sim_delivers : (d e : Effects) (c : ℕ) (x : Delivery) → is_live d c ≡ true → Sim d e
    → Sim (Delivers c x ∷ d) (Delivers c x ∷ e)
sim_delivers d e c x live s =
    sim (agree_delivers d e c x s.left s.right s.agree) (sound_delivers d c x live s.left)
    (sound_delivers e c x (sym (s.agree.lives c) ∙ live) s.right)

pub sim_takes : (d e : Effects) (c : ℕ) → Waits d c → Sim d e → Sim (Takes c ∷ d) (Takes c ∷ e)
sim_takes d e c waits s =
    sim (agree_takes d e c s.agree) (sound_takes d c waits s.left)
    (sound_takes e c (ap (λ (xs : List Delivery). nat_lt 0 (length xs)) (sym (s.agree.inboxes c)) ∙ waits) s.right)
