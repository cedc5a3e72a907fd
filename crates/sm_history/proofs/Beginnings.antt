-- The algebra of "begins with".
use Rattle.std.proofs.Common.{◌≡◌, ◌≤◌, ℕ, List, [], ◌∷◌, ◌++◌, refl, ap, sym, subst, ◌∙◌, arith}
use Rattle.sm_history.specs.declared.entry.Entry.{Entry}
use Rattle.sm_history.specs.Histories.{History, entered}
use Rattle.sm_history.specs.Segments.{sealed}
use Rattle.sm_history.specs.Beginning.{Move, Made, Seals, gone_on, AreJudged, BeginsWith, IsLonger}
use Rattle.sm_history.specs.Lawful.{IsJudged}

pub begins_itself : (places : ℕ) (h : History) → BeginsWith places h h
begins_itself places h = record { moves = []; is = refl; judged = tt }

pub begins_before : (places : ℕ) (e : Entry) (h : History) → IsJudged places e h → BeginsWith places (entered e h) h
begins_before places e h judged = record { moves = Made e ∷ []; is = refl; judged = (judged, tt) }

pub begins_sealed : (places : ℕ) (h : History) → BeginsWith places (sealed h) h
begins_sealed places h = record { moves = Seals ∷ []; is = refl; judged = tt }

gone_through : (h : History) (ms ns : List Move) → gone_on h (ms ++ ns) ≡ gone_on (gone_on h ns) ms
gone_through h [] ns = refl
gone_through h (Made e ∷ ms) ns = ap (λ (g : History). entered e g) (gone_through h ms ns)
gone_through h (Seals ∷ ms) ns = ap (λ (g : History). sealed g) (gone_through h ms ns)

judged_through : (places : ℕ) (h : History) (ms ns : List Move) → AreJudged places (gone_on h ns) ms
    → AreJudged places h ns → AreJudged places h (ms ++ ns)
judged_through places h [] ns newer older = older
judged_through places h (Made e ∷ ms) ns newer older = (
  subst (λ (g : History). IsJudged places e g) (sym (gone_through h ms ns)) newer.0,
  judged_through places h ms ns newer.1 older,
)
judged_through places h (Seals ∷ ms) ns newer older = judged_through places h ms ns newer older

pub begins_through : (places : ℕ) (g h k : History) → BeginsWith places g h → BeginsWith places h k
    → BeginsWith places g k
begins_through places g h k p q = record {
  moves = p.moves ++ q.moves;
  is = p.is ∙ ap (λ (x : History). gone_on x p.moves) q.is ∙ sym (gone_through k p.moves q.moves);
  judged =
      judged_through places k p.moves q.moves (subst (λ (x : History). AreJudged places x p.moves) q.is p.judged)
      q.judged;
}

-- ---- numbers

pub numbers_rise : (h : History) (ms : List Move) → h.number ≤ (gone_on h ms).number
numbers_rise h [] = omega arith
numbers_rise h (Made e ∷ ms) = numbers_rise h ms
numbers_rise h (Seals ∷ ms) = let i = numbers_rise h ms in omega (arith, i)

longer_on : (old : History) (ms : List Move) → (gone_on old ms).number ≡ old.number → IsLonger (gone_on old ms) old
longer_on old [] is = record { opening = refl; rest = []; entries = refl }
longer_on old (Made e ∷ ms) is =
    let i = longer_on old ms is in
    record {
      opening = i.opening;
      rest = e ∷ i.rest;
      entries = ap (λ (es : List Entry). e ∷ es) i.entries;
    }
longer_on old (Seals ∷ ms) is = let i = numbers_rise old ms in absurd (omega (arith, i, is))

-- Where both are one segment there were changes alone.
pub longer : (places : ℕ) (new old : History) → BeginsWith places new old → new.number ≡ old.number → IsLonger new old
longer places new old b is =
    subst (λ (h : History). IsLonger h old) (sym b.is)
    (longer_on old b.moves (ap (λ (h : History). h.number) (sym b.is) ∙ is))
