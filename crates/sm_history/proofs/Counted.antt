-- Effects that give nothing back raise counts of grants alone: where the counts behind them fit, each count on the way
-- does.
use Rattle.std.proofs.Common.{◌≡◌, ℕ, ◌+◌, ◌≤◌, ◌<◌, Bool, true, false, ◌&&◌, ◌==◌, List, [], ◌∷◌, refl, ap, sym, ◌∙◌}
use Rattle.std.proofs.Common.{subst, if◌then◌else◌, arith}
use Rattle.std.specs.Prelude.{not}
use Rattle.std.specs.List.{list_all}
use Rattle.std.proofs.lemmas.Bool.{true≢false, and_parts, not-true}
use Rattle.sm_values.specs.declared.number.Node.{Node}
use Rattle.sm_history.specs.declared.limits.TheConstants.{GREATEST}
use Rattle.sm_history.specs.Effects.{Effect, Effects, Connects, Dies, Gives, Releases, Resumes, same_node}
use Rattle.sm_history.specs.Clients.{is_live}
use Rattle.sm_history.specs.Holdings.{refs_at, counts_fit}
use Rattle.sm_history.specs.Following.{MayFollow, MayFollowApart, followed, MayAll, MayAllApart}
use Rattle.sm_history.specs.Sound.{Sound, IsBalanced}
use Rattle.sm_history.proofs.AfterHoldings.{refs_gives}
use Rattle.sm_history.proofs.Grants.{same_self}
use Rattle.sm_history.proofs.AgreeNotices.{number_for_is}
use Rattle.sm_history.proofs.Sound.{Numbers, sound_gives}
use Rattle.sm_history.proofs.Followed.{sound_follows}
use Rattle.sm_history.proofs.HeldAlike.{number_is}
use Rattle.sm_history.proofs.NumbersFit.{counts_each, is_below}

-- An effect behind which a count may be less, or a client new.
abbrev pub gives_back : Effect → Bool
gives_back (Connects c who) = true
gives_back (Dies c) = true
gives_back (Releases c n) = true
gives_back (Resumes v k) = true
gives_back _ = false

case_grows : (b : Bool) (v w : ℕ) → w ≡ (if b then v + 1 else v) → v ≤ w
case_grows true v w e = omega (arith, e)
case_grows false v w e = omega (arith, e)

pub refs_grow : (d : Effects) (x : Effect) → IsBalanced d → gives_back x ≡ false → (k : ℕ) (m : Node)
    → refs_at d k m ≤ refs_at (x ∷ d) k m
refs_grow d (Connects c who) b e k m = absurd (true≢false e)
refs_grow d (Dies c) b e k m = absurd (true≢false e)
refs_grow d (Releases c n) b e k m = absurd (true≢false e)
refs_grow d (Resumes v n) b e k m = absurd (true≢false e)
refs_grow d (Gives c n r) b e k m =
    case_grows (((c == k) && same_node n m) && is_live d k) (refs_at d k m) (refs_at (Gives c n r ∷ d) k m)
    (refs_gives d c n r k m b)
refs_grow d _ b e k m = omega arith

pub under : {a b g : ℕ} → a ≤ b → b < g → a < g
under le lt = omega (arith, le, lt)

-- The count behind a grant, to a client that is live.
pub one_more : (d : Effects) (c : ℕ) (n : Node) (r : ℕ) → IsBalanced d → is_live d c ≡ true
    → refs_at (Gives c n r ∷ d) c n ≡ refs_at d c n + 1
one_more d c n r b live =
    refs_gives d c n r c n b
    ∙ ap (λ (t : Bool). let v : ℕ = if t then refs_at d c n + 1 else refs_at d c n in v)
    (let all : (((c == c) && same_node n n) && is_live d c) ≡ true = rw (number_is c c refl, same_self n, live) refl in
    all)

-- Each count before effects that give nothing back fits where it does behind them.
may_one : (d : Effects) (x : Effect) → Sound d → MayFollowApart d x
    → ((k : ℕ) (m : Node) → refs_at (x ∷ d) k m < GREATEST) → MayFollow d x
may_one d (Gives c n r) s (live, number, other, fits) below =
    let lt = below c n in
    let more = one_more d c n r s.balanced live in
    (live, number, other, fits, is_below (refs_at d c n + 1) GREATEST (omega (arith, more, lt)))
may_one d _ s m below = m

-- An effect that may come next but for its count keeps what holds of lawful histories.
pub apart_sound : (d : Effects) (x : Effect) → Sound d → MayFollowApart d x → Sound (x ∷ d)
apart_sound d (Gives c n r) s m = sound_gives d c n r m.0
    (subst (λ (k : ℕ). Numbers d c n k) (sym m.1) (number_for_is d c n)) s
apart_sound d (Resumes v n) s m = absurd m
apart_sound d x s m = sound_follows d x s m

-- No count is less behind effects that give nothing back.
pub counts_rise : (d : Effects) (xs : List Effect) → Sound d → MayAllApart d xs
    → list_all (λ x. not (gives_back x)) xs ≡ true → (k : ℕ) (m : Node) → refs_at d k m ≤ refs_at (followed d xs) k m
counts_rise d [] s may back k m = omega arith
counts_rise d (x ∷ xs) s (one, may) back k m =
    let parts = and_parts (not (gives_back x)) (list_all (λ y. not (gives_back y)) xs) back in
    let first = refs_grow d x s.balanced (not-true (gives_back x) parts.0) k m in
    let rest = counts_rise (x ∷ d) xs (apart_sound d x s one) may parts.1 k m in
    omega (arith, first, rest)

-- Where the counts behind effects that give nothing back fit, each of the effects may come next.
pub may_all : (d : Effects) (xs : List Effect) → Sound d → MayAllApart d xs
    → list_all (λ x. not (gives_back x)) xs ≡ true → counts_fit (followed d xs) ≡ true → MayAll d xs
may_all d [] s may back fit = tt
may_all d (x ∷ xs) s (one, may) back fit =
    let parts = and_parts (not (gives_back x)) (list_all (λ y. not (gives_back y)) xs) back in
    let after = apart_sound d x s one in (
      may_one d x s one (λ k m. under (counts_rise (x ∷ d) xs after may parts.1 k m)
          (counts_each (followed (x ∷ d) xs) fit k m)),
      may_all (x ∷ d) xs after may parts.1 fit,
    )
