-- Counts of grants behind an event: where they fit, each of its effects may come next.
use Rattle.std.proofs.Common.{inl, inr, ◌⊎◌, ◌≡◌, ℕ, ◌+◌, ◌-◌, ◌≤◌, ◌<◌, Bool, true, false, ◌&&◌, ◌==◌, List, [], ◌∷◌}
use Rattle.std.proofs.Common.{refl, ap, sym, subst, ◌∙◌, length, if◌then◌else◌, arith}
use Rattle.std.specs.Prelude.{not, nat_lt, count_by, cond}
use Rattle.std.specs.List.{list_all}
use Rattle.std.proofs.lemmas.Bool.{true≢false, and_parts}
use Rattle.std.proofs.lemmas.Bool.Decides.{nat_tests}
use Rattle.std.proofs.lemmas.List.Sums.{sum_by-cons}
use Rattle.sm_values.specs.declared.number.Node.{Node}
use Rattle.sm_history.specs.declared.entry.Entry.{Entry}
use Rattle.sm_history.specs.declared.event.Event.{Event}
use Rattle.sm_history.specs.declared.event.Event.TheVariants.{Connect, Add, Release, Die}
use Rattle.sm_history.specs.declared.effect.Effect.{Effect}
use Rattle.sm_history.specs.declared.effect.Effect.TheVariants.{Connects, Dies, Adds, Gives, Releases, Resumes}
use Rattle.sm_history.specs.declared.limits.TheConstants.{GREATEST}
use Rattle.sm_history.specs.declared.reply.Reply.TheVariants.{Done}
use Rattle.sm_history.specs.Effects.{Effects, same_node}
use Rattle.sm_history.specs.Clients.{is_live, next_client}
use Rattle.sm_history.specs.Holdings.{refs_at, node_at, counts_fit}
use Rattle.sm_history.specs.Following.{MayFollow, MayFollowApart, MayAll, MayAllApart, followed}
use Rattle.sm_history.specs.Histories.{History, effects_of, after_event, client_of, found}
use Rattle.sm_history.specs.Lawful.{IsLawful}
use Rattle.sm_history.specs.Sound.{Sound}
use Rattle.sm_history.specs.Verdict.{verdict, is_die}
use Rattle.sm_history.proofs.AfterHoldings.{refs_connects, refs_gives, refs_releases}
use Rattle.sm_history.proofs.Balanced.{number_same, node_same}
use Rattle.sm_history.proofs.Counted.{apart_sound, gives_back, may_all}
use Rattle.sm_history.proofs.Fitting.{room_done}
use Rattle.sm_history.proofs.Keeps.{Lasts, LeftToKeep, event_keeps}
use Rattle.sm_history.proofs.Induction.{sound_lawful}
use Rattle.sm_history.proofs.NumbersFit.{counts_all, counts_each, is_below, numbers_fit}
use Rattle.sm_history.proofs.Sound.{is_new}
use Rattle.sm_core.specs.Stands.{is_grant_of, given_in, fits_among}
use Rattle.sm_core.proofs.Numbers.{one_first}

-- This is the number of effects that pass a test.
abbrev passing : (Effect → Bool) → List Effect → ℕ
passing p [] = 0
passing p (x ∷ xs) = if p x then passing p xs + 1 else passing p xs

passing_followed : (p : Effect → Bool) (d : Effects) (xs : List Effect)
    → passing p (followed d xs) ≡ passing p d + passing p xs
passing_followed p d [] = omega arith
passing_followed p d (x ∷ xs) =
    let rest = passing_followed p (x ∷ d) xs in
    let a = one_first (p x) (passing p d) in
    let b = one_first (p x) (passing p xs) in
    omega (arith, rest, a, b)

-- Where none passes, neither does the first, nor one of the others.
none_passes : (p : Effect → Bool) (x : Effect) (xs : List Effect) → passing p (x ∷ xs) ≡ 0
    → (p x ≡ false) × (passing p xs ≡ 0)
none_passes p x xs e =
    elim (p x) as (λ b. (if b then passing p xs + 1 else passing p xs) ≡ 0 → (b ≡ false) × (passing p xs ≡ 0)) [
      | true ↦ λ f. absurd (omega (arith, f))
      | false ↦ λ f. (refl, f)
    ] e

-- ---- effects that give something back

-- This is the number of effects that release something, or make a client.
abbrev backs : List Effect → ℕ
backs = passing gives_back

backs_last : (n : ℕ) → Lasts (λ e. backs e ≡ n)
backs_last n (Connects c who) d plain h = absurd (true≢false (sym plain))
backs_last n (Dies c) d plain h = absurd (true≢false (sym plain))
backs_last n (Adds name s) d plain h = absurd (true≢false (sym plain))
backs_last n (Releases c m) d plain h = absurd (true≢false (sym plain))
backs_last n (Resumes v k) d plain h = absurd (true≢false (sym plain))
backs_last n x d plain h = h

-- The events with such an effect, which is their only one.
abbrev is_back : Event → Bool
is_back (Connect who) = true
is_back (Release handle) = true
is_back Die = true
is_back _ = false

backs_left : (d : Effects) (c : ℕ) (event : Event) → is_back event ≡ false
    → LeftToKeep (λ e. backs e ≡ backs d) d c event
backs_left d c (Connect who) h = absurd (true≢false h)
backs_left d c (Add name obj allow dump) h = refl
backs_left d c (Release handle) h = absurd (true≢false h)
backs_left d c Die h = absurd (true≢false h)
backs_left d c x h = tt

none_back : (d : Effects) (c : ℕ) (event : Event) (xs : List Effect) → is_back event ≡ false
    → followed d xs ≡ after_event d c event → backs xs ≡ 0
none_back d c event xs h is =
    let kept : backs (after_event d c event) ≡ backs d =
    event_keeps (λ e. backs e ≡ backs d) (backs_last (backs d)) d c event (backs_left d c event h) refl in
    let same = ap backs is in
    let all = passing_followed gives_back d xs in
    omega (arith, kept, same, all)

each_back : (xs : List Effect) → backs xs ≡ 0 → list_all (λ x. not (gives_back x)) xs ≡ true
each_back [] e = refl
each_back (x ∷ xs) e = let parts = none_passes gives_back x xs e in rw parts.0 (each_back xs parts.1)

-- ---- grants

abbrev is_give : Effect → Bool
is_give (Gives c n r) = true
is_give _ = false

abbrev gives : List Effect → ℕ
gives = passing is_give

back_alone : (d : Effects) (c : ℕ) (event : Event) → is_back event ≡ true → gives (after_event d c event) ≡ gives d
back_alone d c (Connect who) h = refl
back_alone d c (Release handle) h = refl
back_alone d c Die h = refl
back_alone d c x h = absurd (true≢false (sym h))

no_gives : (d : Effects) (c : ℕ) (event : Event) (xs : List Effect) → is_back event ≡ true
    → followed d xs ≡ after_event d c event → gives xs ≡ 0
no_gives d c event xs h is =
    let alone = back_alone d c event h in
    let same = ap gives is in
    let all = passing_followed is_give d xs in
    omega (arith, alone, same, all)

may_plain_one : (d : Effects) (x : Effect) → is_give x ≡ false → MayFollowApart d x → MayFollow d x
may_plain_one d (Gives c n r) h m = absurd (true≢false h)
may_plain_one d x h m = m

may_plain : (d : Effects) (xs : List Effect) → gives xs ≡ 0 → MayAllApart d xs → MayAll d xs
may_plain d [] e m = tt
may_plain d (x ∷ xs) e m =
    let parts = none_passes is_give x xs e in (may_plain_one d x parts.0 m.0, may_plain (x ∷ d) xs parts.1 m.1)

-- ---- what may come next

not_die : (event : Event) → is_back event ≡ false → is_die event ≡ false
not_die Die h = absurd (true≢false h)
not_die x h = refl

-- Each effect of a change that is done may come next.
pub may_done : (places : ℕ) (h : History) (e : Entry) (xs : List Effect) → Sound (effects_of h)
    → verdict places h e.by e.turn e.event ≡ Done e.outcome → MayAllApart (effects_of h) xs
    → followed (effects_of h) xs ≡ after_event (effects_of h) (client_of e.by) e.event → MayAll (effects_of h) xs
may_done places h e xs s done may is =
    let d = effects_of h in
    let c = client_of e.by in
    elim (is_back e.event) as (λ b. is_back e.event ≡ b → MayAll d xs) [
      | true ↦ λ q. may_plain d xs (no_gives d c e.event xs q is) may
      | false ↦ λ q. may_all d xs s may (each_back xs (none_back d c e.event xs q is))
          (ap counts_fit is ∙ (room_done places h e (not_die e.event q) done).counts)
    ] refl

-- ---- the counts behind an event

given_first : (k : ℕ) (m : Node) (x : Effect) (xs : List Effect)
    → given_in k m (x ∷ xs) ≡ given_in k m xs + given_in k m (x ∷ [])
given_first k m x xs =
    elim (is_grant_of k m x) as (λ b. (if b then given_in k m xs + 1 else given_in k m xs)
    ≡ given_in k m xs + (if b then 0 + 1 else 0))
    [ true ↦ omega arith | false ↦ omega arith ]

grant_case : (b live : Bool) (v w : ℕ) → w ≡ (if b && live then v + 1 else v) → (b ≡ true → live ≡ true)
    → w ≡ v + (if b then 0 + 1 else 0)
grant_case true true v w e is = omega (arith, e)
grant_case true false v w e is = absurd (true≢false (sym (is refl)))
grant_case false live v w e is = omega (arith, e)

refs_one : (d : Effects) (x : Effect) → Sound d → MayFollowApart d x → gives_back x ≡ false → (k : ℕ) (m : Node)
    → refs_at (x ∷ d) k m ≡ refs_at d k m + given_in k m (x ∷ [])
refs_one d (Gives c n r) s may h k m =
    grant_case ((c == k) && same_node n m) (is_live d k) (refs_at d k m) (refs_at (Gives c n r ∷ d) k m)
    (refs_gives d c n r k m s.balanced)
    (λ e. subst (λ (v : ℕ). is_live d v ≡ true) (number_same c k (and_parts (c == k) (same_node n m) e).0) may.0)
refs_one d (Connects c who) s may h k m = absurd (true≢false h)
refs_one d (Dies c) s may h k m = absurd (true≢false h)
refs_one d (Releases c n) s may h k m = absurd (true≢false h)
refs_one d (Resumes v n) s may h k m = absurd (true≢false h)
refs_one d x s may h k m = omega arith

-- If nothing is released, each count rises by what is granted.
refs_all : (d : Effects) (xs : List Effect) → Sound d → MayAllApart d xs → backs xs ≡ 0 → (k : ℕ) (m : Node)
    → refs_at (followed d xs) k m ≡ refs_at d k m + given_in k m xs
refs_all d [] s may none k m = omega arith
refs_all d (x ∷ xs) s may none k m =
    let parts = none_passes gives_back x xs none in
    let one = refs_one d x s may.0 parts.0 k m in
    let rest = refs_all (x ∷ d) xs (apart_sound d x s may.0) may.1 parts.1 k m in
    let first = given_first k m x xs in
    omega (arith, one, rest, first)

below_is : (a b : ℕ) → nat_lt a b ≡ true → a < b
below_is a b h = grind (arith, nat_tests)

grant_fits : (d : Effects) (xs : List Effect) (y : Effect) (k : ℕ) (m : Node) → is_grant_of k m y ≡ true
    → fits_among d xs y ≡ true → refs_at d k m + given_in k m xs < GREATEST
grant_fits d xs (Gives c n r) k m e fits =
    let parts = and_parts (c == k) (same_node n m) e in
    subst (λ (v : Node). refs_at d k v + given_in k v xs < GREATEST) (node_same n m parts.1)
    (subst (λ (v : ℕ). refs_at d v n + given_in v n xs < GREATEST) (number_same c k parts.0)
    (below_is (refs_at d c n + given_in c n xs) GREATEST fits))
grant_fits d xs x k m e fits = absurd (true≢false (sym e))

none_or_fits : (d : Effects) (xs ys : List Effect) (k : ℕ) (m : Node) → list_all (fits_among d xs) ys ≡ true
    → (given_in k m ys ≡ 0) ⊎ (refs_at d k m + given_in k m xs < GREATEST)
none_or_fits d xs [] k m all = inl refl
none_or_fits d xs (y ∷ ys) k m all =
    let parts = and_parts (fits_among d xs y) (list_all (fits_among d xs) ys) all in
    elim (is_grant_of k m y) as (λ b. is_grant_of k m y ≡ b →
    ((if b then given_in k m ys + 1 else given_in k m ys) ≡ 0) ⊎ (refs_at d k m + given_in k m xs < GREATEST)) [
      | true ↦ λ e. inr (grant_fits d xs y k m e parts.0)
      | false ↦ λ e. none_or_fits d xs ys k m parts.1
    ] refl

all_fit : (d : Effects) (xs : List Effect) → counts_fit d ≡ true → list_all (fits_among d xs) xs ≡ true
    → (k : ℕ) (m : Node) → refs_at d k m + given_in k m xs < GREATEST
all_fit d xs fit all k m =
    elim (none_or_fits d xs xs k m all) [
      | inl none ↦ let now = counts_each d fit k m in omega (arith, none, now)
      | inr lt ↦ lt
    ]

one_fits : (d : Effects) (xs : List Effect) (y : Effect)
    → ((k : ℕ) (m : Node) → refs_at d k m + given_in k m xs < GREATEST) → fits_among d xs y ≡ true
one_fits d xs (Gives c n r) each = is_below (refs_at d c n + given_in c n xs) GREATEST (each c n)
one_fits d xs x each = refl

fit_all : (d : Effects) (xs ys : List Effect)
    → ((k : ℕ) (m : Node) → refs_at d k m + given_in k m xs < GREATEST) → list_all (fits_among d xs) ys ≡ true
fit_all d xs [] each = refl
fit_all d xs (y ∷ ys) each = rw (one_fits d xs y each) (fit_all d xs ys each)

plain_fits_one : (d : Effects) (xs : List Effect) (y : Effect) → is_give y ≡ false → fits_among d xs y ≡ true
plain_fits_one d xs (Gives c n r) h = absurd (true≢false h)
plain_fits_one d xs x h = refl

plain_fits : (d : Effects) (xs ys : List Effect) → gives ys ≡ 0 → list_all (fits_among d xs) ys ≡ true
plain_fits d xs [] e = refl
plain_fits d xs (y ∷ ys) e =
    let parts = none_passes is_give y ys e in rw (plain_fits_one d xs y parts.0) (plain_fits d xs ys parts.1)

same_count : {a b g : ℕ} → a ≡ b → b < g → a < g
same_count e lt = omega (arith, e, lt)

less_count : (b : Bool) (v w g : ℕ) → w ≡ (if b then v - 1 else v) → v < g → w < g
less_count true v w g e lt = omega (arith, e, lt)
less_count false v w g e lt = omega (arith, e, lt)

back_fits : (d : Effects) (c : ℕ) (event : Event) → Sound d → is_back event ≡ true → is_die event ≡ false
    → counts_fit d ≡ true → counts_fit (after_event d c event) ≡ true
back_fits d c (Connect who) s h alive fit =
    let new = is_new d (next_client d) refl s.fresh in
    counts_all (after_event d c (Connect who)) (λ k m. same_count (refs_connects d (next_client d) who k m new)
    (counts_each d fit k m))
back_fits d c (Release handle) s h alive fit =
    let n = found (node_at d c handle) in
    counts_all (after_event d c (Release handle)) (λ k m. less_count ((c == k) && same_node n m) (refs_at d k m)
    (refs_at (after_event d c (Release handle)) k m) GREATEST (refs_releases d c n k m) (counts_each d fit k m))
back_fits d c Die s h alive fit = absurd (true≢false alive)
back_fits d c event s h alive fit = absurd (true≢false (sym h))

both_true : (a b : Bool) → (a ≡ true → b ≡ true) → (b ≡ true → a ≡ true) → a ≡ b
both_true true b to from = sym (to refl)
both_true false true to from = absurd (true≢false (sym (from refl)))
both_true false false to from = refl

-- The counts behind an event fit just where those of its grants do.
pub counts_are : (d : Effects) (c : ℕ) (event : Event) (xs : List Effect) → Sound d → MayAllApart d xs
    → followed d xs ≡ after_event d c event → is_die event ≡ false → counts_fit d ≡ true
    → list_all (fits_among d xs) xs ≡ counts_fit (after_event d c event)
counts_are d c event xs s may is alive fit =
    elim (is_back event) as (λ b. is_back event ≡ b →
    list_all (fits_among d xs) xs ≡ counts_fit (after_event d c event)) [
      | true ↦ λ q. plain_fits d xs xs (no_gives d c event xs q is) ∙ sym (back_fits d c event s q alive fit)
      | false ↦ λ q.
          let refs = refs_all d xs s may (none_back d c event xs q is) in
          both_true (list_all (fits_among d xs) xs) (counts_fit (after_event d c event))
          (λ all. ap counts_fit (sym is)
          ∙ counts_all (followed d xs) (λ k m. same_count (refs k m) (all_fit d xs fit all k m)))
          (λ after. fit_all d xs xs (λ k m. same_count (sym (refs k m))
          (counts_each (followed d xs) (ap counts_fit is ∙ after) k m)))
    ] refl

-- ---- in the code's words

pub given_count : (k : ℕ) (m : Node) (xs : List Effect) → count_by (is_grant_of k m) xs ≡ given_in k m xs
given_count k m [] = refl
given_count k m (x ∷ xs) =
    let cons = sum_by-cons (λ (y : Effect). cond (is_grant_of k m y) 1 0) x xs in
    let rest = given_count k m xs in
    elim (is_grant_of k m x) as (λ b. count_by (is_grant_of k m) (x ∷ xs) ≡ cond b 1 0 + count_by (is_grant_of k m) xs
    → count_by (is_grant_of k m) (x ∷ xs) ≡ (if b then given_in k m xs + 1 else given_in k m xs)) [
      | true ↦ λ e. omega (arith, e, rest)
      | false ↦ λ e. omega (arith, e, rest)
    ] cons

given_few : (k : ℕ) (m : Node) (xs : List Effect) → given_in k m xs ≤ length xs
given_few k m [] = omega arith
given_few k m (x ∷ xs) =
    let rest = given_few k m xs in
    elim (is_grant_of k m x) as (λ b. (if b then given_in k m xs + 1 else given_in k m xs) ≤ length (x ∷ xs))
    [ true ↦ omega (arith, rest) | false ↦ omega (arith, rest) ]

-- The quick test: a bound of all counts is small.
pub bound_fits : (d : Effects) (xs : List Effect) (bound : ℕ) → ((k : ℕ) (m : Node) → refs_at d k m ≤ bound)
    → bound < GREATEST - length xs → list_all (fits_among d xs) xs ≡ true
bound_fits d xs bound each lt = fit_all d xs xs (λ k m.
    let few = given_few k m xs in
    let le = each k m in
    omega (arith, lt, few, le))

-- The exact one.
pub exact_fits : (k : ℕ) (m : Node) (xs : List Effect) (count refs times : ℕ) → count ≡ refs → count ≤ GREATEST
    → times ≡ count_by (is_grant_of k m) xs
    → nat_lt times (GREATEST - count) ≡ nat_lt (refs + given_in k m xs) GREATEST
exact_fits k m xs count refs times is most all =
    let same = given_count k m xs in
    both_true (nat_lt times (GREATEST - count)) (nat_lt (refs + given_in k m xs) GREATEST)
    (λ h. let lt = below_is times (GREATEST - count) h in
    is_below (refs + given_in k m xs) GREATEST (omega (arith, is, most, all, same, lt)))
    (λ h. let lt = below_is (refs + given_in k m xs) GREATEST h in
    is_below times (GREATEST - count) (omega (arith, is, most, all, same, lt)))

-- ---- places

-- The counts that an event's effects raise fit where all counts after it do.
pub counts_follow : (places : ℕ) (h : History) (c : ℕ) (event : Event) (dies counts : Bool) (xs : List Effect)
    → let d = effects_of h in IsLawful places h → followed d xs ≡ after_event d c event → MayAllApart d xs
    → dies ≡ is_die event → dies ≡ false → counts ≡ list_all (fits_among d xs) xs
    → counts ≡ counts_fit (after_event d c event)
counts_follow places h c event dies counts xs lawful is may ed none ec =
    ec ∙ counts_are (effects_of h) c event xs (sound_lawful places h lawful) may is (sym ed ∙ none)
    (numbers_fit places h lawful).counts
