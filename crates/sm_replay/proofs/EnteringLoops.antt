-- The remaining watchers to notify, and the remaining references to pass.
use Rattle.std.proofs.Common.{◌≡◌, ℕ, zero, suc, ◌+◌, ◌<◌, true, List, [], ◌∷◌, ap, sym, ◌∙◌, subst, Option, Some}
use Rattle.std.proofs.Common.{length, drop, get_or, add-one}
use Rattle.std.specs.Prelude.{slice_get}
use Rattle.std.specs.List.{list_all}
use Rattle.std.proofs.lemmas.Bool.{and_parts}
use Rattle.sm_values.specs.declared.number.Node.{Node}
use Rattle.sm_values.specs.declared.number.ObjRef.{ObjRef}
use Rattle.sm_history.specs.declared.delivery.Given.{Given}
use Rattle.sm_history.specs.declared.notice.Notice.{Notice}
use Rattle.sm_history.specs.declared.tables.Tables.{Tables}
use Rattle.sm_history.specs.Effects.{Effects}
use Rattle.sm_history.specs.declared.effect.Watch.{Watch}
use Rattle.sm_history.specs.Clients.{is_live}
use Rattle.sm_history.specs.Holdings.{resolve_at, given_to, handed}
use Rattle.sm_history.specs.Notices.{notice_at, notices_at, after_notice, after_notices}
use Rattle.sm_history.specs.Histories.{given_ref, given_refs, handed_ref, handed_refs}
use Rattle.sm_history.specs.Sound.{Sound}
use Rattle.sm_history.specs.Tables.{TracksTables}
use Rattle.sm_history.specs.Entering.{AllFit}
use Rattle.sm_history.proofs.AgreeNotices.{AllLive, all_same, live_notice, live_ref, sim_ref}
use Rattle.sm_replay.proofs.EnteringSteps.{sim_self, sound_notice}
use Rattle.sm_replay.proofs.CountsBefore.{fit_before_notices, fit_before_refs}
use Rattle.std.proofs.lemmas.List.{drop_more}

nothing_more : {X : Type 0} (y : X) (ys : List X) → (let l : List X = [] in l) ≡ y ∷ ys → ⊥
nothing_more y ys is = cc

first_is : {X : Type 0} (x y : X) (xs ys : List X) → (let l : List X = x ∷ xs in l) ≡ y ∷ ys → x ≡ y
first_is x y xs ys is = cc

rest_is : {X : Type 0} (x y : X) (xs ys : List X) → (let l : List X = x ∷ xs in l) ≡ y ∷ ys → xs ≡ ys
rest_is x y xs ys is = cc

-- ---- notifying

-- The notices that are left are those to the watchers that are left, of the effects that the tables track.
pub record TellsLeft (d : Effects) (n : Node) (ws : List Watch) (rest : List Notice) (t : Tables) : Type 0 where
  pub now : Effects
  pub left : List Watch
  pub sound : Sound now
  pub tracks : TracksTables now t
  pub told : rest ≡ notices_at now n left
  pub lives : AllLive now left
  pub same : after_notices now n left ≡ after_notices d n ws

-- This is what notifying one watcher promises.
abbrev pub TellsOne : Node → Notice → Tables → Tables → Type 0
TellsOne n x t t' = (e : Effects) (w : Watch) → Sound e → TracksTables e t → is_live e w.client ≡ true
    → x ≡ notice_at e n w → AllFit (after_notice e n w) → TracksTables (after_notice e n w) t'

next_told : (d e : Effects) (n : Node) (ws vs : List Watch) (x : Notice) (rest : List Notice) (t t' : Tables)
    → Sound e → TracksTables e t → (let l : List Notice = x ∷ rest in l) ≡ notices_at e n vs → AllLive e vs
    → after_notices e n vs ≡ after_notices d n ws → AllFit (after_notices d n ws) → TellsOne n x t t'
    → TellsLeft d n ws rest t'
next_told d e n ws [] x rest t t' s tr told lives same fits one = absurd (nothing_more x rest (sym told))
next_told d e n ws (w ∷ vs) x rest t t' s tr told lives same fits one =
    let parts = and_parts (is_live e w.client) (list_all (λ (v : Watch). is_live e v.client) vs) lives in
    let after = sound_notice e n w s parts.0 in
    let fit = fit_before_notices (after_notice e n w) n vs after.balanced (subst AllFit (sym same) fits) in
    record {
      now = after_notice e n w;
      left = vs;
      sound = after;
      tracks = one e w s tr parts.0 (first_is x (notice_at e n w) rest (notices_at (after_notice e n w) n vs) told) fit;
      told = rest_is x (notice_at e n w) rest (notices_at (after_notice e n w) n vs) told;
      lives = all_same (is_live e) (is_live (after_notice e n w)) vs (λ k. live_notice e n w k) parts.1;
      same = same;
    }

pub tells_next : (d : Effects) (n : Node) (ws : List Watch) (x : Notice) (rest : List Notice) (t t' : Tables)
    → TellsLeft d n ws (x ∷ rest) t → AllFit (after_notices d n ws) → TellsOne n x t t' → TellsLeft d n ws rest t'
tells_next d n ws x rest t t' l fits one =
    next_told d l.now n ws l.left x rest t t' l.sound l.tracks l.told l.lives l.same fits one

none_left : (d e : Effects) (n : Node) (ws vs : List Watch) (t : Tables) → TracksTables e t
    → (let l : List Notice = [] in l) ≡ notices_at e n vs → after_notices e n vs ≡ after_notices d n ws
    → TracksTables (after_notices d n ws) t
none_left d e n ws [] t tr told same = subst (λ (b : Effects). TracksTables b t) same tr
none_left d e n ws (w ∷ vs) t tr told same = absurd (nothing_more (notice_at e n w)
    (notices_at (after_notice e n w) n vs) told)

pub all_told : (d : Effects) (n : Node) (ws : List Watch) (t : Tables) → TellsLeft d n ws [] t
    → TracksTables (after_notices d n ws) t
all_told d n ws t l = none_left d l.now n ws l.left t l.tracks l.told l.same

-- ---- passing

pub record RefsLeft (d : Effects) (from to : ℕ) (refs rest : List ObjRef) (gs : List Given) (t : Tables) : Type 0 where
  pub now : Effects
  pub sound : Sound now
  pub tracks : TracksTables now t
  pub giver : is_live now from ≡ true
  pub receiver : is_live now to ≡ true
  pub given : gs ≡ given_refs now from to rest
  pub same : handed_refs now from to rest ≡ handed_refs d from to refs

-- What handing one reference over promises.
abbrev pub HandsOne : ℕ → ℕ → ObjRef → Option Given → Tables → Tables → Type 0
HandsOne from to obj g t t' = (e : Effects) → Sound e → TracksTables e t → is_live e from ≡ true → is_live e to ≡ true
    → g ≡ Some (given_ref e to (resolve_at e from obj)) → AllFit (handed_ref e to (resolve_at e from obj))
    → TracksTables (handed_ref e to (resolve_at e from obj)) t'

pub refs_next : (d : Effects) (from to : ℕ) (refs : List ObjRef) (obj : ObjRef) (rest : List ObjRef) (g : Given)
    (gs : List Given) (t t' : Tables) → RefsLeft d from to refs (obj ∷ rest) (g ∷ gs) t
    → AllFit (handed_refs d from to refs) → HandsOne from to obj (Some g) t t' → RefsLeft d from to refs rest gs t'
refs_next d from to refs obj rest g gs t t' l fits one =
    let e = l.now in
    let o = resolve_at e from obj in
    let after = (sim_ref e e to o l.receiver (sim_self e l.sound)).left in
    let first = first_is g (given_ref e to o) gs (given_refs (handed_ref e to o) from to rest) l.given in
    record {
      now = handed_ref e to o;
      sound = after;
      tracks = one e l.sound l.tracks l.giver l.receiver (ap (λ (v : Given). Some v) first)
          (fit_before_refs (handed_ref e to o) from to rest after.balanced (subst AllFit (sym l.same) fits));
      giver = live_ref e to o from ∙ l.giver;
      receiver = live_ref e to o to ∙ l.receiver;
      given = rest_is g (given_ref e to o) gs (given_refs (handed_ref e to o) from to rest) l.given;
      same = l.same;
    }

-- ---- places in lists

-- The rest of a list from an index on begins with the element at that index.
pub drop_item : {X : Type 0} (xs : List X) (i : ℕ) (x : X) → i < length xs → x ≡ get_or xs i x
    → drop i xs ≡ x ∷ drop (i + 1) xs
drop_item xs i x lt is = drop_more xs i x lt ∙ ap (λ v. v ∷ drop (i + 1) xs) (sym is)

get_first : {X : Type 0} (xs : List X) (i : ℕ) (y : X) (ys : List X) → drop i xs ≡ y ∷ ys → slice_get xs i ≡ Some y
get_first [] zero y ys is = absurd (nothing_more y ys is)
get_first [] (suc i) y ys is = absurd (nothing_more y ys is)
get_first (x ∷ xs) zero y ys is = ap (λ v. Some v) (first_is x y xs ys is)
get_first (x ∷ xs) (suc i) y ys is = get_first xs i y ys is

drop_rest : {X : Type 0} (xs : List X) (i : ℕ) (y : X) (ys : List X) → drop i xs ≡ y ∷ ys → drop (suc i) xs ≡ ys
drop_rest [] zero y ys is = absurd (nothing_more y ys is)
drop_rest [] (suc i) y ys is = absurd (nothing_more y ys is)
drop_rest (x ∷ xs) zero y ys is = rest_is x y xs ys is
drop_rest (x ∷ xs) (suc i) y ys is = drop_rest xs i y ys is

pub refs_step : (d : Effects) (from to : ℕ) (refs : List ObjRef) (obj : ObjRef) (rest : List ObjRef) (gs : List Given)
    (i : ℕ) (t t' : Tables) → RefsLeft d from to refs (obj ∷ rest) (drop i gs) t → AllFit (handed_refs d from to refs)
    → HandsOne from to obj (slice_get gs i) t t' → RefsLeft d from to refs rest (drop (i + 1) gs) t'
refs_step d from to refs obj rest gs i t t' l fits one =
    let e = l.now in
    let o = resolve_at e from obj in
    let g = given_ref e to o in
    let more = given_refs (handed_ref e to o) from to rest in
    rw (add-one i, drop_rest gs i g more l.given)
    (refs_next d from to refs obj rest g more t t' (rw l.given at l) fits (rw (get_first gs i g more l.given) at one))

pub hand_step : (d : Effects) (to : ℕ) (o : Option Node) (n : Node) (g : Option Given) (x : Given) (t : Tables)
    → o ≡ Some n → g ≡ Some x → g ≡ Some (given_ref d to o) → AllFit (handed_ref d to o)
    → (x ≡ given_to d to n → AllFit (handed d to n) → TracksTables (handed d to n) t)
    → TracksTables (handed_ref d to o) t
hand_step d to o n g x t is was given fits hand =
    let given' = sym was ∙ rw is at given in let here : x ≡ given_to d to n = cc in rw is (hand here (rw is at fits))
