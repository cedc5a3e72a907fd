-- A replay goes on as the history does.
use Rattle.std.proofs.Common.{◌≡◌, ℕ, ◌+◌, [], refl, arith}
use Rattle.std.specs.Prelude.{min, ◌||◌}
use Rattle.sm_policy.specs.Policy.{Policy}
use Rattle.sm_values.specs.declared.identity.Identity.{Identity}
use Rattle.sm_history.specs.declared.limits.TheConstants.{GREATEST}
use Rattle.sm_history.specs.declared.by.By.{By}
use Rattle.sm_history.specs.declared.event.Event.{Event}
use Rattle.sm_history.specs.declared.event.Event.TheVariants.{Open}
use Rattle.sm_history.specs.declared.outcome.Outcome.{Outcome}
use Rattle.sm_history.specs.declared.outcome.Outcome.TheVariants.{Opened}
use Rattle.sm_history.specs.declared.entry.Entry.{Entry}
use Rattle.sm_replay.specs.declared.replaying.Replay.{Replay}
use Rattle.sm_history.specs.declared.tables.Tables.{Tables}
use Rattle.sm_history.specs.Effects.{Effects}
use Rattle.sm_history.specs.Histories.{History, entered, effects_of, client_of, after_event}
use Rattle.sm_history.specs.Lawful.{IsOpening}
use Rattle.sm_history.specs.Sound.{Sound}
use Rattle.sm_history.specs.Tables.{TracksTables}
use Rattle.sm_history.specs.Entering.{IsDone}
use Rattle.sm_replay.specs.Replaying.{IsNext, TracksHistory, start}
use Rattle.sm_history.specs.Openings.{is_same}
use Rattle.sm_history.specs.Segments.{admin}
use Rattle.sm_replay.specs.Turning.{has_made, is_known, made, more_by, with_order}
use Rattle.sm_history.proofs.NumbersFit.{below}
use Rattle.sm_history.proofs.RowsSound.{sound_back}
use Rattle.sm_history.proofs.SoundHistory.{sound_none}
use Rattle.sm_replay.proofs.TurnsCounted.{counted_more}

-- ---- one entry more

-- What entering into the tables promises.
abbrev pub Enters : ℕ → Event → Outcome → Tables → Tables → Type 0
Enters c event outcome t t' = (d : Effects) → Sound d → TracksTables d t → IsDone d c event outcome
    → TracksTables (after_event d c event) t'

pub next_step : (h : History) (e : Entry) (c : ℕ) (old new : Replay) → Sound (effects_of h) → TracksHistory h old
    → IsNext h e → c ≡ client_of e.by → Enters c e.event e.outcome old.tables new.tables
    → ((b : By) → made new.turning b ≡ more_by (is_same e.by b) (made old.turning b))
    → ((a : ℕ) → is_known new.turning a ≡ (is_same e.by (admin a) || is_known old.turning a))
    → new.turning.order.items ≡ with_order e.by (has_made old.turning e.by) old.turning.order.items
    → new.length ≡ min (old.length + 1) GREATEST → TracksHistory (entered e h) new
next_step h e c old new s tr next own enters counts knows orders longer =
    let enters' = rw own at enters in
    record {
      tables = enters' (effects_of h) s tr.tables next.done;
      turning = counted_more h e old.turning new.turning next.turns tr.turning counts knows orders;
      length = let was = tr.length in let lt = next.length in omega (arith, longer, was, lt);
    }

-- ---- the opening

pub sound_start : (number : ℕ) → Sound (effects_of (start number))
sound_start number = sound_back [] sound_none

opening_done : (number : ℕ) (who : Identity) (policy : Policy)
    → IsDone (effects_of (start number)) 0 (Open who policy) Opened
opening_done number who policy = record {
  acts = tt;
  passes = tt;
  outcome_is = refl;
  fits = λ c n. below 0 GREATEST refl;
  version = below 0 GREATEST refl;
}

-- The manager's opening is the next change where nothing was before.
pub opening_next : (number : ℕ) (e : Entry) → IsOpening e → IsNext (start number) e
opening_next number e (who, policy, is, may, ok) =
    rw is (record {
      done = opening_done number who policy;
      turns = λ by. below 0 GREATEST refl;
      length = below 0 GREATEST refl;
    })
