-- Every lawful manager was opened, and records that were true once stay so.
use Rattle.std.proofs.Common.{◌≡◌, ℕ, true, List, [], ◌∷◌, refl, sym, subst}
use Rattle.std.specs.List.{All, list_any}
use Rattle.std.proofs.lemmas.Bool.{or_right}
use Rattle.sm_history.specs.declared.by.By.{By}
use Rattle.sm_history.specs.declared.entry.Entry.{Entry}
use Rattle.sm_history.specs.declared.event.Event.{Event}
use Rattle.sm_history.specs.declared.records.Record.{Record}
use Rattle.sm_history.specs.Effects.{Effect, Effects, Watch, Opens, Sets, Connects, Dies, Adds, Gives, Releases}
use Rattle.sm_history.specs.Effects.{Watches, Delivers}
use Rattle.sm_history.specs.Clients.{next_client, is_opening, is_opened}
use Rattle.sm_history.specs.Holdings.{resolve_at, node_at}
use Rattle.sm_history.specs.Histories.{History, whole, client_of, effects_of, after_event, found}
use Rattle.sm_history.specs.Histories.{service}
use Rattle.sm_history.specs.declared.event.Event.TheVariants.{Connect, Add, Release, Die}
use Rattle.sm_history.specs.Rows.{LiveRow, HeldRow, NamedRow, WaitingRow, Rows, rows_at, put_all, put_live, put_named}
use Rattle.sm_history.specs.Rows.{put_held, put_watch, put_waiting, live_put, names_put, held_put, watches_put, resumed}
use Rattle.sm_history.specs.Lawful.{IsLawful, IsOpening}
use Rattle.sm_history.specs.Beginning.{BeginsWith}
use Rattle.sm_history.specs.Records.{records, IsTrueOf, IsTrueOnce}
use Rattle.sm_history.proofs.Induction.{holds_lawful}
use Rattle.sm_history.proofs.Keeps.{LeftToKeep, event_keeps}
use Rattle.sm_history.proofs.PutRows.{kept_times}
use Rattle.sm_history.proofs.Beginnings.{begins_through}
use Rattle.sm_history.proofs.TrueRecords.{event_records_true}

-- ---- the manager of a lawful history was opened

abbrev IsOpened : Effects → Type 0
IsOpened d = is_opened d ≡ true

more : (x : Effect) (d : Effects) → IsOpened d → IsOpened (x ∷ d)
more x d h = or_right (is_opening x) (list_any is_opening d) h

opened_left : (d : Effects) (c : ℕ) (event : Event) → IsOpened d → LeftToKeep IsOpened d c event
opened_left d c (Connect who) h = more (Connects (next_client d) who) d h
opened_left d c (Add name obj allow dump) h = more (Adds name (service c (found (resolve_at d c obj)) allow dump)) d h
opened_left d c (Release handle) h = more (Releases c (found (node_at d c handle))) d h
opened_left d c Die h = more (Dies c) d h
opened_left d c _ h = tt

opened_event : (d : Effects) (c : ℕ) (event : Event) → IsOpened d → IsOpened (after_event d c event)
opened_event d c event h = event_keeps IsOpened (λ x b plain i. more x b i) d c event (opened_left d c event h) h

put_opened : {X : Type 0} (put : X → Effects → Effects) → ((x : X) (b : Effects) → IsOpened b → IsOpened (put x b))
    → (xs : List X) (b : Effects) → IsOpened b → IsOpened (put_all put xs b)
put_opened put keeps [] b h = h
put_opened put keeps (x ∷ xs) b h = put_opened put keeps xs (put x b) (keeps x b h)

opened_rows : (r : Rows) → IsOpened (resumed r)
opened_rows r =
    put_opened put_waiting (λ (x : WaitingRow) b h. more (Delivers x.client x.delivery) b h) r.waiting (watches_put r)
    (put_opened put_watch (λ (w : Watch) b h. more (Watches w) b h) r.watches (held_put r)
    (put_opened put_held (λ (x : HeldRow) b h. kept_times IsOpened (Gives x.client x.node x.number)
    (λ e i. more (Gives x.client x.node x.number) e i) x.count b h) r.held (names_put r)
    (put_opened put_named (λ (x : NamedRow) b h. more (Adds x.name x.service) b h) r.names (live_put r)
    (put_opened put_live (λ (x : LiveRow) b h. more (Connects x.client x.who) b h) r.live
    (Sets r.policy ∷ Opens r.manager ∷ []) refl))))

abbrev WasOpened : History → Type 0
WasOpened h = IsOpened (effects_of h)

was_opened : (e : Entry) → IsOpening e → WasOpened (whole (e ∷ []))
was_opened e (who, policy, is, may, ok) = subst (λ (x : Entry). WasOpened (whole (x ∷ []))) (sym is) refl

opened_lawful : (places : ℕ) (h : History) → IsLawful places h → IsOpened (effects_of h)
opened_lawful places h l =
    holds_lawful WasOpened (record {
      opens = was_opened;
      goes_on = λ e g m i. opened_event (effects_of g) (client_of e.by) e.event i;
      resumes = λ number a la i. opened_rows (rows_at (effects_of (whole a)));
    }) places h l

-- The records of an event are true of the lawful history in which it is judged.
pub records_true : (places : ℕ) (h : History) (by : By) (turn : ℕ) (event : Event) → IsLawful places h
    → All (IsTrueOf h) (records places h by turn event)
records_true places h by turn event l = event_records_true places h by turn event (opened_lawful places h l)

-- A record that was true once of a history was true once of those that begin with it.
pub stays_true : (places : ℕ) (new old : History) (r : Record) → BeginsWith places new old → IsTrueOnce places old r
    → IsTrueOnce places new r
stays_true places new old r b t = record {
  at = t.at;
  lawful = t.lawful;
  begins = begins_through places new old t.at b t.begins;
  is = t.is;
}
