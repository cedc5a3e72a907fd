-- What effects in order do to versions, to the number of clients and to counts of grants.
use Rattle.std.proofs.Common.{inr, ◌≡◌, ℕ, ◌+◌, ◌<◌, Bool, true, false, List, [], ◌∷◌, ap, sym, ◌∙◌}
use Rattle.std.proofs.Common.{if◌then◌else◌, length, drop, get_or, arith}
use Rattle.std.specs.Prelude.{nat_lt}
use Rattle.std.proofs.lemmas.Bool.Decides.{nat_tests}
use Rattle.sm_history.specs.declared.entry.Entry.{Entry}
use Rattle.sm_history.specs.declared.effect.Effect.{Effect}
use Rattle.sm_history.specs.declared.effect.Effect.TheVariants.{Resumes}
use Rattle.sm_history.specs.declared.limits.TheConstants.{GREATEST}
use Rattle.sm_history.specs.declared.reply.Reply.TheVariants.{Done}
use Rattle.sm_history.specs.Effects.{Effects}
use Rattle.sm_history.specs.Clients.{version_at, next_client}
use Rattle.sm_history.specs.Following.{MayFollowApart, MayAllApart, followed}
use Rattle.sm_history.specs.Histories.{History, effects_of, entered, after_event, client_of}
use Rattle.sm_history.specs.Lawful.{IsLawful, HasSoundPolicy}
use Rattle.sm_history.specs.Verdict.{verdict}
use Rattle.sm_history.proofs.HistoryLaws.{next_small}
use Rattle.sm_history.proofs.NumbersFit.{numbers_fit}
use Rattle.sm_history.proofs.Versions.{version_small}
use Rattle.sm_core.specs.declared.state.State.{State}
use Rattle.sm_core.specs.Stands.{Stands, is_set, sets_in, is_connect, connects_in}
use Rattle.sm_core.proofs.ListSteps.{rest_from}

pub count_grows : (n : ℕ) → nat_lt (n + 1) GREATEST ≡ true → n < 18446744073709551615
count_grows n h = let less : n + 1 < GREATEST = grind (arith, nat_tests) in omega (arith, less)

-- ---- policies that are set, and clients that connect

pub one_first : (b : Bool) (n : ℕ) → (if b then n + 1 else n) ≡ n + (if b then 1 else 0)
one_first true n = omega arith
one_first false n = omega arith

pub sets_first : (x : Effect) (xs : List Effect) → sets_in (x ∷ xs) ≡ sets_in xs + sets_in (x ∷ [])
sets_first x xs = one_first (is_set x) (sets_in xs)

-- The same, from an index on.
pub sets_from : (xs : List Effect) (i : ℕ) (x : Effect) → x ≡ get_or xs i x → i < length xs
    → sets_in (drop i xs) ≡ sets_in (drop (i + 1) xs) + sets_in (x ∷ [])
sets_from xs i x is lt = ap sets_in (rest_from xs i x is lt) ∙ sets_first x (drop (i + 1) xs)

pub connects_first : (x : Effect) (xs : List Effect) → connects_in (x ∷ xs) ≡ connects_in xs + connects_in (x ∷ [])
connects_first x xs = one_first (is_connect x) (connects_in xs)

version_one : (x : Effect) (d : Effects) → MayFollowApart d x → version_at (x ∷ d) ≡ version_at d + sets_in (x ∷ [])
version_one (Resumes v n) d m = absurd m
version_one x d m = omega arith

version_followed : (d : Effects) (xs : List Effect) → MayAllApart d xs
    → version_at (followed d xs) ≡ version_at d + sets_in xs
version_followed d [] m = omega arith
version_followed d (x ∷ xs) m =
    let rest = version_followed (x ∷ d) xs m.1 in
    let one = version_one x d m.0 in
    let first = sets_first x xs in
    omega (arith, rest, one, first)

next_one : (x : Effect) (d : Effects) → MayFollowApart d x → next_client (x ∷ d) ≡ next_client d + connects_in (x ∷ [])
next_one (Resumes v n) d m = absurd m
next_one x d m = omega arith

next_followed : (d : Effects) (xs : List Effect) → MayAllApart d xs
    → next_client (followed d xs) ≡ next_client d + connects_in xs
next_followed d [] m = omega arith
next_followed d (x ∷ xs) m =
    let rest = next_followed (x ∷ d) xs m.1 in
    let one = next_one x d m.0 in
    let first = connects_first x xs in
    omega (arith, rest, one, first)

-- The version and the next number stay below the greatest number over a change that is done.
pub numbers_after : (places : ℕ) (h : History) (s : State) (e : Entry) (xs : List Effect) → IsLawful places h
    → Stands (effects_of h) s → verdict places h e.by e.turn e.event ≡ Done e.outcome → HasSoundPolicy e.event
    → followed (effects_of h) xs ≡ after_event (effects_of h) (client_of e.by) e.event → MayAllApart (effects_of h) xs
    → (s.principals.version + sets_in xs < GREATEST) × (s.next + connects_in xs < GREATEST)
numbers_after places h s e xs lawful stands done sound is may =
    let d = effects_of h in
    let lawful' : IsLawful places (entered e h) = inr (lawful, (done, sound)) in
    let fits = (numbers_fit places (entered e h) lawful').lengths in
    let version = version_small places (entered e h) lawful' in
    let next = next_small places (entered e h) lawful' in
    let more : version_at (after_event d (client_of e.by) e.event) ≡ version_at d + sets_in xs =
    sym (ap version_at is) ∙ version_followed d xs may in
    let further : next_client (after_event d (client_of e.by) e.event) ≡ next_client d + connects_in xs =
    sym (ap next_client is) ∙ next_followed d xs may in
    let has = stands.principals.version in
    let comes = stands.next in
    (omega (arith, fits, version, more, has), omega (arith, fits, next, further, comes))
