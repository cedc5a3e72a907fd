-- What a view's parts are after more effects, and what it answers.
use Rattle.std.proofs.Common.{◌≡◌, ℕ, ◌+◌, ◌<◌, ◌||◌, Bool, true, false, List, [], ◌∷◌, refl, ap, sym, subst, ◌∙◌}
use Rattle.std.proofs.Common.{inr, if◌then◌else◌, arith}
use Rattle.std.specs.Arc.{arc_value}
use Rattle.std.specs.List.{list_any}
use Rattle.std.proofs.lemmas.Bool.{true≢false}
use Rattle.sm_history.specs.declared.effect.Effect.{Effect}
use Rattle.sm_history.specs.declared.effect.Effect.TheVariants.{Opens, Sets, Connects, Dies, Adds, Removes, Resumes}
use Rattle.sm_history.specs.Effects.{Effects}
use Rattle.sm_history.specs.Following.{MayFollowApart, MayAllApart, followed}
use Rattle.sm_history.specs.Histories.{History, effects_of, entered, length_of, turn_of}
use Rattle.sm_history.specs.Segments.{sealed}
use Rattle.sm_history.specs.Openings.{is_same}
use Rattle.sm_history.specs.declared.turn.TurnRow.{TurnRow}
use Rattle.sm_history.specs.Sound.{Sound}
use Rattle.sm_history.specs.declared.by.By.{By}
use Rattle.sm_history.specs.declared.limits.TheConstants.{GREATEST}
use Rattle.sm_history.proofs.Fits.{fits_any}
use Rattle.sm_history.proofs.Induction.{sound_lawful}
use Rattle.sm_history.proofs.HistoryLaws.{turns_small}
use Rattle.sm_history.proofs.NumbersFit.{numbers_fit, sealed_lawful, sealed_fits}
use Rattle.sm_history.proofs.RowsSound.{sim_rows}
use Rattle.sm_history.proofs.LawfulLaws.{turn_more, turn_same}
use Rattle.sm_names.specs.declared.services.Services.{Services}
use Rattle.sm_history.specs.declared.entry.Entry.{Entry}
use Rattle.sm_core.specs.declared.state.State.{State}
use Rattle.sm_core.specs.declared.turns.Turns.{Turns}
use Rattle.sm_core.specs.declared.view_tables.ViewTables.{ViewTables}
use Rattle.sm_core.specs.Counting.{change_count}
use Rattle.sm_core.specs.Kept.{Kept}
use Rattle.sm_core.specs.Stands.{StandPrincipals, sets_in}
use Rattle.sm_history.proofs.AfterNames.{service_connects}
use Rattle.sm_history.proofs.Counted.{apart_sound}
use Rattle.sm_history.specs.declared.named_row.NamedRow.{NamedRow}
use Rattle.sm_names.specs.Rows.{TracksRows}
use Rattle.sm_names.specs.Tracking.{TracksNames}
use Rattle.sm_names.proofs.Others.{same_rows}
use Rattle.sm_core.specs.declared.principals.Principals.{Principals}
use Rattle.sm_core.proofs.StandsAlike.{principals_alike, services_alike}
use Rattle.sm_core.specs.Viewing.{IsComing, Viewed, counted_with, moves_principals, moves_services}

-- ---- effects that a part doesn't hear of

pub same_principals : (x : Effect) (d : Effects) (p : Principals) → moves_principals x ≡ false → StandPrincipals d p
    → StandPrincipals (x ∷ d) p
same_principals (Opens who) d p h s = absurd (true≢false h)
same_principals (Sets policy) d p h s = absurd (true≢false h)
same_principals (Connects c who) d p h s = absurd (true≢false h)
same_principals (Dies c) d p h s = absurd (true≢false h)
same_principals (Resumes v n) d p h s = absurd (true≢false h)
same_principals x d p h s = record {
  manager = s.manager;
  policy = s.policy;
  version = s.version;
  clients = s.clients;
}

-- Where only the room for more clients is another, they stay.
pub same_but_room : (d : Effects) (p q : Principals) → q.manager ≡ p.manager → q.policy ≡ p.policy
    → q.version ≡ p.version → q.clients.items ≡ p.clients.items → StandPrincipals d p → StandPrincipals d q
same_but_room d p q manager policy version clients s = record {
  manager = manager ∙ s.manager;
  policy = policy ∙ s.policy;
  version = version ∙ s.version;
  clients = clients ∙ s.clients;
}

pub same_services : (x : Effect) (d : Effects) (rows : List NamedRow) → moves_services x ≡ false → Sound d
    → MayFollowApart d x → TracksRows d rows → TracksRows (x ∷ d) rows
same_services (Adds name t) d rows h s m tr = absurd (true≢false h)
same_services (Removes name) d rows h s m tr = absurd (true≢false h)
same_services (Dies c) d rows h s m tr = absurd (true≢false h)
same_services (Connects c who) d rows h s m tr =
    same_rows (Connects c who) d rows (λ name. service_connects d c who name m s.owned) tr
same_services (Resumes v n) d rows h s m tr = absurd m
same_services x d rows h s m tr = same_rows x d rows (λ name. refl) tr

-- Where none of some effects is one that the part hears of, it stays.
none_first : (a b : Bool) → a || b ≡ false → a ≡ false
none_first true b e = absurd (true≢false e)
none_first false b e = refl

none_rest : (a b : Bool) → a || b ≡ false → b ≡ false
none_rest true b e = absurd (true≢false e)
none_rest false b e = e

pub principals_stay : (xs : List Effect) (d : Effects) (p : Principals) → list_any moves_principals xs ≡ false
    → StandPrincipals d p
    → StandPrincipals (followed d xs) p
principals_stay [] d p h s = s
principals_stay (x ∷ xs) d p h s =
    principals_stay xs (x ∷ d) p (none_rest (moves_principals x) (list_any moves_principals xs) h)
    (same_principals x d p (none_first (moves_principals x) (list_any moves_principals xs) h) s)

pub services_stay : (xs : List Effect) (d : Effects) (rows : List NamedRow) → list_any moves_services xs ≡ false
    → Sound d → MayAllApart d xs → TracksRows d rows → TracksRows (followed d xs) rows
services_stay [] d rows h s m tr = tr
services_stay (x ∷ xs) d rows h s m tr =
    services_stay xs (x ∷ d) rows (none_rest (moves_services x) (list_any moves_services xs) h)
    (apart_sound d x s m.0) m.1
    (same_services x d rows (none_first (moves_services x) (list_any moves_services xs) h) s m.0 tr)

-- ---- effects one by one

-- What holds of the effects so far, where these are left of all.
abbrev pub Going : (Effects → Type 0) → Effects → List Effect → List Effect → Type 0
Going P d xs left = (e : Effects) × Sound e × P e × MayAllApart e left × (followed e left ≡ followed d xs)

pub goes_on : (P Q : Effects → Type 0) (d : Effects) (xs left rest : List Effect) (x : Effect) → left ≡ x ∷ rest
    → ((e : Effects) → Sound e → MayFollowApart e x → P e → Q (x ∷ e)) → Going P d xs left → Going Q d xs rest
goes_on P Q d xs left rest x is step g =
    let may : MayAllApart g.0 (x ∷ rest) = subst (MayAllApart g.0) is g.3 in
    (x ∷ g.0, apart_sound g.0 x g.1 may.0, step g.0 g.1 may.0 g.2, may.1, ap (followed g.0) (sym is) ∙ g.4)

pub gone : (P : Effects → Type 0) (d : Effects) (xs left : List Effect) → left ≡ [] → Going P d xs left
    → P (followed d xs)
gone P d xs left is g = subst P (ap (followed g.0) (sym is) ∙ g.4) g.2

-- ---- views

-- The parts of a view of what there is now.
pub viewed_now : (places : ℕ) (h : History) (turns : Turns) (s : State) (len : ℕ) (tables : ViewTables)
    (newest : TurnRow) → Kept places h turns s → len ≡ length_of h
    → ((d : Effects) → StandPrincipals d s.principals → StandPrincipals d (arc_value tables.principals))
    → ((d : Effects) → TracksNames d s.names → TracksRows d (arc_value tables.services).rows.items)
    → ((b : By) → counted_with newest tables.turn_counts b ≡ change_count turns b)
    → Viewed places h len tables newest
viewed_now places h turns s len tables newest k is asks named counts = record {
  lawful = k.lawful;
  fits = k.fits;
  few = k.few;
  length_is = is;
  asks = asks (effects_of h) k.stands.principals;
  named = named (effects_of h) k.stands.names;
  turns = λ by. counts by ∙ k.turns_are by;
}

-- The number of an actor's changes once an event is committed.
abbrev pub changes_with : Turns → By → By → ℕ
changes_with turns by b = if is_same b by then change_count turns b + 1 else change_count turns b

-- The parts of a view of what there is once an event is committed.
pub viewed_more : (places : ℕ) (h : History) (turns : Turns) (e : Entry) (xs : List Effect) (len : ℕ) (tables tables' : ViewTables)
    (newest newest' : TurnRow) → ((b : By) → change_count turns b ≡ turn_of h b) → IsComing places h e xs
    → Viewed places h len tables newest
    → ((d : Effects) → Sound d → StandPrincipals d (arc_value tables.principals) → MayAllApart d xs
    → StandPrincipals (followed d xs) (arc_value tables'.principals))
    → ((d : Effects) → Sound d → TracksRows d (arc_value tables.services).rows.items → MayAllApart d xs
    → TracksRows (followed d xs) (arc_value tables'.services).rows.items)
    → ((b : By) → counted_with newest' tables'.turn_counts b ≡ changes_with turns e.by b)
    → Viewed places (entered e h) (len + 1) tables' newest'
viewed_more places h turns e xs len tables tables' newest newest' turns_are coming v asks named counts =
    let d = effects_of h in
    let sound = sound_lawful places h v.lawful in record {
      lawful = inr (v.lawful, (coming.done, coming.sound));
      fits = fits_any places h e.by e.turn e.event e.outcome sound v.fits coming.done;
      few = v.few;
      length_is = let was = v.length_is in omega (arith, was);
      asks = subst (λ (x : Effects). StandPrincipals x (arc_value tables'.principals)) coming.effects
          (asks d sound v.asks coming.may);
      named = subst (λ (x : Effects). TracksRows x (arc_value tables'.services).rows.items) coming.effects
          (named d sound v.named coming.may);
      turns = λ by. counts by
          ∙ elim (is_same by e.by) as (λ t. is_same by e.by ≡ t →
          (if t then change_count turns by + 1 else change_count turns by) ≡ turn_of (entered e h) by) [
            | true ↦ λ q. ap (λ (n : ℕ). n + 1) (turns_are by) ∙ sym (turn_same e h by q)
            | false ↦ λ q. turns_are by ∙ sym (turn_more e h by q)
          ] refl;
    }

-- The parts of a view of what a seal leaves. Principals and services stay.
pub viewed_sealed : (places : ℕ) (h : History) (len : ℕ) (tables tables' : ViewTables) (newest newest' : TurnRow)
    → Viewed places h len tables newest → arc_value tables'.principals ≡ arc_value tables.principals
    → arc_value tables'.services ≡ arc_value tables.services
    → ((by : By) → counted_with newest' tables'.turn_counts by ≡ turn_of (sealed h) by)
    → Viewed places (sealed h) len tables' newest'
viewed_sealed places h len tables tables' newest newest' v principals services counts =
    let d = effects_of h in
    let e = effects_of (sealed h) in
    let sim = sim_rows d (sound_lawful places h v.lawful) in
    let is = v.length_is in record {
      lawful = sealed_lawful places h v.lawful;
      fits = sealed_fits places h v.fits;
      few = v.few;
      length_is = omega (arith, is);
      asks = subst (StandPrincipals e) (sym principals)
          (principals_alike d e (arc_value tables.principals) sim.agree v.asks);
      named = subst (λ (s : Services). TracksRows e s.rows.items) (sym services)
          (services_alike d e (arc_value tables.services).rows.items sim.agree v.named);
      turns = counts;
    }

-- The length of a view is below the greatest number.
pub viewed_length : (places : ℕ) (h : History) (len : ℕ) (tables : ViewTables) (newest : TurnRow)
    → Viewed places h len tables newest → len < GREATEST
viewed_length places h len tables newest v =
    let fits = (numbers_fit places h v.lawful).lengths in
    let is = v.length_is in
    omega (arith, fits, is)

-- The counts of changes are, too.
pub viewed_turns : (places : ℕ) (h : History) (len : ℕ) (tables : ViewTables) (newest : TurnRow) (by : By)
    → Viewed places h len tables newest → turn_of h by < GREATEST
viewed_turns places h len tables newest by v =
    let few = turns_small places h v.lawful by in
    let small = (numbers_fit places h v.lawful).lengths in
    omega (arith, few, small)

-- The version of a view and the policies that an event sets are below the greatest number.
pub viewed_version : (places : ℕ) (h : History) (len : ℕ) (tables : ViewTables) (newest : TurnRow) (e : Entry)
    (xs : List Effect) → Viewed places h len tables newest → IsComing places h e xs
    → (arc_value tables.principals).version + sets_in xs < GREATEST
viewed_version places h len tables newest e xs v coming =
    let is = v.asks.version in
    let small = coming.numbers in
    omega (arith, is, small)
