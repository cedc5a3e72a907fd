-- Induction over lawful histories: over changes that were accepted,
-- from the manager's opening or from the rows that lawful changes left.
use Rattle.std.proofs.Common.{inl, inr, ℕ, List, [], ◌∷◌, sym, subst}
use Rattle.sm_history.specs.declared.entry.Entry.{Entry}
use Rattle.sm_history.specs.Effects.{Opens}
use Rattle.sm_history.specs.Checks.{Wants}
use Rattle.sm_history.specs.EarlyAnswers.{Refused}
use Rattle.sm_history.specs.declared.refusal.Refusal.TheVariants.{JournalFull}
use Rattle.sm_history.specs.Rows.{resumed}
use Rattle.sm_history.specs.Openings.{Opening, blank_opening}
use Rattle.sm_history.specs.Histories.{History, whole, entered, effects_of, turn_of, client_of}
use Rattle.sm_history.specs.Verdict.{has_place}
use Rattle.sm_history.specs.Segments.{rows_of}
use Rattle.sm_history.specs.Lawful.{IsOpening, AreLawfulApart, AreLawful, IsLawful}
use Rattle.sm_history.proofs.Sound.{sound_opens, sound_sets}
use Rattle.sm_history.proofs.SoundHistory.{Met, met, sound_event, sound_none}
use Rattle.sm_history.proofs.RowsSound.{sound_back}
use Rattle.sm_history.specs.Sound.{Sound}

-- What an induction has to show.
pub record Holds (P : History → Type 0) : Type 0 where
  pub opens : (e : Entry) → IsOpening e → P (whole (e ∷ []))
  pub goes_on : (e : Entry) (h : History) → Met (effects_of h) e.by e.event → P h → P (entered e h)
  pub resumes : (number : ℕ) (a : List Entry) → AreLawfulApart a → P (whole a) →
      P (record { number = number; opening = rows_of (whole a); entries = [] })

pub holds_apart : (P : History → Type 0) → Holds P → (a : List Entry) → AreLawfulApart a → P (whole a)
holds_apart P holds [] l = absurd l
holds_apart P holds (e ∷ []) l = holds.opens e l
holds_apart P holds (e ∷ f ∷ es) (before, done, ok) =
    let h = whole (f ∷ es) in
    holds.goes_on e h (met (effects_of h) (turn_of h e.by) e.by e.turn e.event [] e.outcome done)
    (holds_apart P holds (f ∷ es) before)

holds_after : (P : History → Type 0) → Holds P → (places number : ℕ) (o : Opening) (es : List Entry)
    → AreLawful places number o es → P (record { number = number; opening = o; entries = es })
holds_after P holds places number o [] ((a, l, is), fits) =
    rw is (holds.resumes number a l (holds_apart P holds a l))
holds_after P holds places number o (e ∷ es) (inl (first, is, none, opens)) =
    rw (first, is, none) (holds.opens e opens)
holds_after P holds places number o (e ∷ es) (inr (before, (done, ok))) =
    let h : History = record { number = number; opening = o; entries = es } in
    holds.goes_on e h (met (effects_of h) (turn_of h e.by) e.by e.turn e.event
    (Wants (has_place places h (client_of e.by) e.event) (Refused JournalFull) ∷ []) e.outcome done)
    (holds_after P holds places number o es before)

pub holds_lawful : (P : History → Type 0) → Holds P → (places : ℕ) (h : History) → IsLawful places h → P h
holds_lawful P holds places h l = holds_after P holds places h.number h.opening h.entries l

-- ---- soundness

sound_opening : (e : Entry) → IsOpening e → Sound (effects_of (whole (e ∷ [])))
sound_opening e (who, policy, is, may, ok) =
    subst (λ (x : Entry). Sound (effects_of (whole (x ∷ [])))) (sym is)
    (sound_sets (Opens who ∷ resumed blank_opening.tables) policy
    (sound_opens (resumed blank_opening.tables) who (sound_back [] sound_none)))

abbrev pub LeavesSound : History → Type 0
LeavesSound h = Sound (effects_of h)

pub holds_sound : Holds LeavesSound
holds_sound = record {
  opens = sound_opening;
  goes_on = λ e h m s. sound_event (effects_of h) e.by e.event s m;
  resumes = λ number a l s. sound_back (effects_of (whole a)) s;
}

pub sound_apart : (a : List Entry) → AreLawfulApart a → Sound (effects_of (whole a))
sound_apart a l = holds_apart LeavesSound holds_sound a l

pub sound_lawful : (places : ℕ) (h : History) → IsLawful places h → Sound (effects_of h)
sound_lawful places h l = holds_lawful LeavesSound holds_sound places h l
