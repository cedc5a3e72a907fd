-- Notifying a watcher leaves what is read before other watchers are notified.
use Rattle.std.proofs.Common.{◌≡◌, ℕ, ◌+◌, Bool, true, false, ◌==◌, List, ◌∷◌, refl}
use Rattle.std.proofs.Common.{ap, sym, ◌∙◌, subst, length, if◌then◌else◌, arith}
use Rattle.std.specs.Prelude.{nat_le}
use Rattle.std.proofs.lemmas.Bool.Decides.{nat_tests}
use Rattle.sm_values.specs.declared.number.Node.{Node}
use Rattle.sm_history.specs.declared.delivery.Delivery.{Delivery}
use Rattle.sm_history.specs.declared.limits.TheConstants.{MOST_HANDLES}
use Rattle.sm_history.specs.Effects.{Effects}
use Rattle.sm_history.specs.declared.effect.Effect.TheVariants.{Adds, Gives, Watches, Delivers}
use Rattle.sm_history.specs.declared.effect.Watch.{Watch}
use Rattle.sm_history.specs.declared.service.Service.{Service}
use Rattle.sm_history.specs.Clients.{is_live}
use Rattle.sm_history.specs.Holdings.{is_held, held_nodes, number_at, free_number, number_for, handed, fits_handles}
use Rattle.sm_history.specs.Sound.{Sound}
use Rattle.sm_history.proofs.Grants.{held_gives, count_gives, same_self}
use Rattle.sm_history.proofs.AfterHoldings.{number_gives}
use Rattle.sm_history.proofs.HeldAlike.{HoldAlike, NumbersAlike, counts_alike, free_alike}
use Rattle.sm_history.proofs.Sound.{sound_adds, sound_gives, sound_watches, sound_delivers}
use Rattle.sm_history.proofs.AgreeNotices.{number_for_is}
use Rattle.sm_core.specs.Notifications.{AsBefore}

-- ---- a grant to another client

held_other : (e : Effects) (k : ℕ) (n : Node) (r c : ℕ) → Sound e → (k == c) ≡ false → HoldAlike (Gives k n r ∷ e) e c
held_other e k n r c s other m = held_gives e k n r c m s.balanced ∙ rw other refl

numbers_other : (e : Effects) (k : ℕ) (n : Node) (r c : ℕ) → (k == c) ≡ false
    → NumbersAlike (Gives k n r ∷ e) e c
numbers_other e k n r c other m held = number_gives e k n r c m ∙ rw other refl

number_case : (h h' : Bool) (a a' f f' : ℕ) → h' ≡ h → a' ≡ a → f' ≡ f
    → (let v : ℕ = if h' then a' else f' in v) ≡ (if h then a else f)
number_case h h' a a' f f' same at free = rw (same, at, free) refl

number_other : (e : Effects) (k : ℕ) (n : Node) (r c : ℕ) → Sound e → (k == c) ≡ false
    → number_for (Gives k n r ∷ e) c n ≡ number_for e c n
number_other e k n r c s other =
    number_case (is_held e c n) (is_held (Gives k n r ∷ e) c n) (number_at e c n) (number_at (Gives k n r ∷ e) c n)
    (free_number e c) (free_number (Gives k n r ∷ e) c) (held_other e k n r c s other n)
    (number_gives e k n r c n ∙ rw other refl)
    (free_alike (Gives k n r ∷ e) e c (held_other e k n r c s other) (numbers_other e k n r c other) (s.single c))

-- This is the number of objects that a client holds after one more was passed to it.
count_handed : (d : Effects) (c : ℕ) (n : Node) → Sound d → is_live d c ≡ true
    → length (held_nodes (handed d c n) c)
    ≡ (if n.owner.0 == c then length (held_nodes d c)
    else if is_held d c n then length (held_nodes d c) else length (held_nodes d c) + 1)
count_handed d c n s live =
    elim (n.owner.0 == c) as (λ b. length
    (held_nodes (let e : Effects = if b then d else Gives c n (number_for d c n) ∷ d in e) c)
    ≡ (if b then length (held_nodes d c)
    else if is_held d c n then length (held_nodes d c) else length (held_nodes d c) + 1)) [
      | true ↦ refl
      | false ↦ count_gives d c n (number_for d c n) s.balanced live
    ]

count_case : (own h h' : Bool) (a a' : ℕ) → h' ≡ h → a' ≡ a
    → (let v : ℕ = if own then a' else if h' then a' else a' + 1 in v)
    ≡ (if own then a else if h then a else a + 1)
count_case own h h' a a' same at = rw (same, at) refl

fits_other : (e : Effects) (k : ℕ) (n : Node) (r c : ℕ) → Sound e → Sound (Gives k n r ∷ e) → is_live e c ≡ true
    → (k == c) ≡ false
    → fits_handles (handed (Gives k n r ∷ e) c n) c ≡ fits_handles (handed e c n) c
fits_other e k n r c s s' live other =
    ap (λ a. nat_le a MOST_HANDLES)
    (count_handed (Gives k n r ∷ e) c n s' live
    ∙ count_case (n.owner.0 == c) (is_held e c n) (is_held (Gives k n r ∷ e) c n) (length (held_nodes e c))
    (length (held_nodes (Gives k n r ∷ e) c)) (held_other e k n r c s other n)
    (counts_alike (Gives k n r ∷ e) e c (held_other e k n r c s other))
    ∙ sym (count_handed e c n s live))

-- ---- a grant to the client itself

held_now : (e : Effects) (c : ℕ) (n : Node) (r : ℕ) → Sound e → is_live e c ≡ true
    → is_held (Gives c n r ∷ e) c n ≡ true
held_now e c n r s live =
    let self : (c == c) ≡ true = grind (arith, nat_tests) in
    held_gives e c n r c n s.balanced ∙ rw (self, same_self n, live) refl

number_now : (e : Effects) (c : ℕ) (n : Node) (r : ℕ) → Sound e → is_live e c ≡ true
    → number_for (Gives c n r ∷ e) c n ≡ r
number_now e c n r s live =
    let self : (c == c) ≡ true = grind (arith, nat_tests) in
    ap (λ (b : Bool). let v : ℕ = if b then number_at (Gives c n r ∷ e) c n else free_number (Gives c n r ∷ e) c in v)
    (held_now e c n r s live)
    ∙ number_gives e c n r c n ∙ rw (self, same_self n) refl

fits_now : (e : Effects) (c : ℕ) (n : Node) → Sound e
    → Sound (Gives c n (number_for e c n) ∷ e) → is_live e c ≡ true → (n.owner.0 == c) ≡ false
    → fits_handles (handed (Gives c n (number_for e c n) ∷ e) c n) c ≡ fits_handles (handed e c n) c
fits_now e c n s s' live other =
    let e' : Effects = Gives c n (number_for e c n) ∷ e in
    let now : handed e c n ≡ e' = rw other refl in
    ap (λ a. nat_le a MOST_HANDLES)
    (count_handed e' c n s' live
    ∙ rw (other, held_now e c n (number_for e c n) s live) refl
    ∙ ap (λ (x : Effects). length (held_nodes x c)) (sym now))

-- ---- notices

pub before_gives : (d e : Effects) (n : Node) (k : ℕ) → AsBefore d e n → is_live d k ≡ true → (n.owner.0 == k) ≡ false
    → AsBefore d (Gives k n (number_for e k n) ∷ e) n
before_gives d e n k b live other =
    let r = number_for e k n in
    let there = b.lives k ∙ live in
    let s' = sound_gives e k n r there (number_for_is e k n) b.sound in
    record {
      sound = s';
      policy = b.policy;
      manager = b.manager;
      who = b.who;
      lives = b.lives;
      numbers = λ c l.
          elim (k == c) as (λ t. (k == c) ≡ t → number_for (Gives k n r ∷ e) c n ≡ number_for d c n) [
            | true ↦ λ t.
                let same : k ≡ c = grind (arith, nat_tests) in
                subst (λ (v : ℕ). number_for (Gives k n r ∷ e) v n ≡ number_for d v n) same
                (number_now e k n r b.sound there ∙ b.numbers k live)
            | false ↦ λ t. number_other e k n r c b.sound t ∙ b.numbers c l
          ] refl;
      fits = λ c l.
          elim (k == c) as (λ t. (k == c) ≡ t
          → fits_handles (handed (Gives k n r ∷ e) c n) c ≡ fits_handles (handed d c n) c) [
            | true ↦ λ t.
                let same : k ≡ c = grind (arith, nat_tests) in
                subst (λ (v : ℕ). fits_handles (handed (Gives k n r ∷ e) v n) v ≡ fits_handles (handed d v n) v) same
                (fits_now e k n b.sound s' there other ∙ b.fits k live)
            | false ↦ λ t. fits_other e k n r c b.sound s' (b.lives c ∙ l) t ∙ b.fits c l
          ] refl;
    }

-- What has no say in handles, and leaves the rules, puts nothing in the way.
pub before_delivers : (d e : Effects) (n : Node) (k : ℕ) (x : Delivery) → AsBefore d e n → is_live d k ≡ true
    → AsBefore d (Delivers k x ∷ e) n
before_delivers d e n k x b live =
    let s' = sound_delivers e k x (b.lives k ∙ live) b.sound in
    let fits = λ (c : ℕ) (l : is_live d c ≡ true).
    ap (λ a. nat_le a MOST_HANDLES) (count_handed (Delivers k x ∷ e) c n s' (b.lives c ∙ l)
    ∙ sym (count_handed e c n b.sound (b.lives c ∙ l))) ∙ b.fits c l in
    assumption

pub before_adds : (d : Effects) (n : Node) (name : List ℕ) (t : Service) → Sound d → is_live d t.node.owner.0 ≡ true
    → AsBefore d (Adds name t ∷ d) n
before_adds d n name t s live =
    let s' = sound_adds d name t live s in
    let fits = λ (c : ℕ) (l : is_live d c ≡ true).
    ap (λ a. nat_le a MOST_HANDLES) (count_handed (Adds name t ∷ d) c n s' l ∙ sym (count_handed d c n s l)) in
    assumption

pub before_watches : (d : Effects) (n : Node) (w : Watch) → Sound d → is_live d w.client ≡ true
    → AsBefore d (Watches w ∷ d) n
before_watches d n w s live =
    let s' = sound_watches d w live s in
    let fits = λ (c : ℕ) (l : is_live d c ≡ true).
    ap (λ a. nat_le a MOST_HANDLES) (count_handed (Watches w ∷ d) c n s' l ∙ sym (count_handed d c n s l)) in
    assumption
