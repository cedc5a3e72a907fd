-- Views and their parts.
use Rattle.std.specs.Prelude.{ℕ, ◌≡◌, ◌≤◌, ◌<◌, ◌+◌, Bool, true, false, List, ◌∷◌, Option, Some, None, filter, find}
use Rattle.std.specs.Prelude.{not, option_map, unwrap_or}
use Rattle.std.specs.Arc.{arc_value}
use Rattle.sm_history.specs.declared.by.By.{By}
use Rattle.sm_history.specs.declared.entry.Entry.{Entry}
use Rattle.sm_history.specs.declared.effect.Effect.{Effect}
use Rattle.sm_history.specs.declared.effect.Effect.TheVariants.{Opens, Sets, Connects, Dies, Adds, Removes, Resumes}
use Rattle.sm_history.specs.Clients.{version_at}
use Rattle.sm_history.specs.declared.reply.Reply.TheVariants.{Done}
use Rattle.sm_history.specs.Following.{MayAllApart, followed}
use Rattle.sm_history.specs.Histories.{History, after_event, client_of, effects_of, entered, length_of, turn_of}
use Rattle.sm_history.specs.Openings.{is_same}
use Rattle.sm_history.specs.declared.turn.TurnRow.{TurnRow}
use Rattle.sm_history.specs.Lawful.{IsLawful, FitsPlaces, HasSoundPolicy}
use Rattle.sm_history.specs.Verdict.{verdict}
use Rattle.sm_values.specs.declared.limits.TheConstants.{MOST_PLACES}
use Rattle.sm_names.specs.Rows.{TracksRows}
use Rattle.sm_core.specs.declared.turn_counts.TurnCounts.{TurnCounts}
use Rattle.sm_core.specs.declared.turns.Turns.{Turns}
use Rattle.sm_core.specs.declared.view_tables.ViewTables.{ViewTables}
use Rattle.sm_core.specs.Counting.{change_count}
use Rattle.sm_core.specs.Stands.{StandPrincipals, sets_in}
use Rattle.sm_history.specs.declared.limits.TheConstants.{GREATEST}

-- This is a history with the next change, if there is one.
abbrev pub with_next : {S : Type 0} → (S → Entry) → Option S → History → History
with_next value None h = h
with_next value (Some s) h = entered (value s) h

-- An effect changes the processes or the policy.
abbrev pub moves_principals : Effect → Bool
moves_principals (Opens who) = true
moves_principals (Sets policy) = true
moves_principals (Connects c who) = true
moves_principals (Dies c) = true
moves_principals (Resumes version clients) = true
moves_principals _ = false

-- An effect changes the services.
abbrev pub moves_services : Effect → Bool
moves_services (Adds name s) = true
moves_services (Removes name) = true
moves_services (Dies c) = true
moves_services _ = false

-- The number in an actor's row, where rows have one of that actor.
abbrev pub listed_turns : List TurnRow → By → Option ℕ
listed_turns since by = option_map (λ r. r.turns) (find (λ r. is_same by r.by) since)

-- The rows of all actors but one.
abbrev pub rows_of_others : By → List TurnRow → List TurnRow
rows_of_others by since = filter (λ r. not (is_same by r.by)) since

-- An actor's changes: the number in its row, or that in the table where it has no row.
abbrev pub counted_in : Turns → List TurnRow → By → ℕ
counted_in base since by = unwrap_or (listed_turns since by) (change_count base by)

-- An actor's changes by these counts.
abbrev pub counted_by : TurnCounts → By → ℕ
counted_by t by = counted_in (arc_value t.base) t.since.items by

-- An actor's changes by these counts and one row more, which comes first.
abbrev pub counted_with : TurnRow → TurnCounts → By → ℕ
counted_with newest t by = counted_in (arc_value t.base) (newest ∷ t.since.items) by

-- The parts of a view are those of its history.
pub record Viewed (places : ℕ) (h : History) (length : ℕ) (tables : ViewTables) (newest : TurnRow) : Type 0 where
  pub lawful : IsLawful places h
  pub fits : FitsPlaces places h
  pub few : places ≤ MOST_PLACES
  pub length_is : length ≡ length_of h
  pub asks : StandPrincipals (effects_of h) (arc_value tables.principals)
  pub named : TracksRows (effects_of h) (arc_value tables.services).rows.items
  pub turns : (by : By) → counted_with newest tables.turn_counts by ≡ turn_of h by

-- A change with these effects comes after this history.
pub record IsComing (places : ℕ) (h : History) (e : Entry) (xs : List Effect) : Type 0 where
  pub done : verdict places h e.by e.turn e.event ≡ Done e.outcome
  pub sound : HasSoundPolicy e.event
  pub effects : followed (effects_of h) xs ≡ after_event (effects_of h) (client_of e.by) e.event
  pub may : MayAllApart (effects_of h) xs
  pub numbers : version_at (effects_of h) + sets_in xs < GREATEST
