-- Notifying watchers, in terms of the state before the first notice.
use Rattle.std.specs.Prelude.{ℕ, ◌-◌, ◌≡◌, true, false, ◌&&◌, nat_lt, List, [], ◌∷◌, ◌++◌, Option, length, unwrap_or}
use Rattle.std.specs.List.{list_any}
use Rattle.sm_values.specs.declared.number.Node.{Node}
use Rattle.sm_history.specs.EarlyAnswers.{Refused}
use Rattle.sm_history.specs.declared.refusal.Refusal.TheVariants.{Failed}
use Rattle.sm_history.specs.declared.refusal.Failure.TheVariants.{TargetFull}
use Rattle.sm_history.specs.declared.delivery.Delivery.{Delivery}
use Rattle.sm_history.specs.declared.delivery.Given.{Given, TheVariants.Handle}
use Rattle.sm_history.specs.declared.delivery.Message.TheVariants.{Registered}
use Rattle.sm_history.specs.declared.limits.TheConstants.{MOST_DELIVERIES}
use Rattle.sm_history.specs.Effects.{Effects}
use Rattle.sm_history.specs.declared.effect.Watch.{Watch}
use Rattle.sm_history.specs.declared.effect.Effect.{Effect, TheVariants.Gives}
use Rattle.sm_history.specs.Clients.{policy_at, manager_at, identity_at, is_live}
use Rattle.sm_history.specs.Holdings.{handed, number_for, fits_handles}
use Rattle.sm_history.specs.Inboxes.{inbox_at}
use Rattle.sm_history.specs.Checks.{Check, Wants, from_manager, to_label, finding, calling, transferring}
use Rattle.sm_history.specs.Following.{followed, MayAllApart}
use Rattle.sm_history.specs.Records.{Moment, left_by_all, left_by_notices}
use Rattle.sm_history.specs.Notices.{notice_checks, notices_at, after_notice, after_notices}
use Rattle.sm_history.specs.Sound.{Sound}
use Rattle.sm_core.specs.Stands.{is_death}
use Rattle.sm_core.specs.InboxRooms.{left_of}
use Rattle.sm_core.specs.declared.draft.Draft.{Draft}
use Rattle.sm_core.specs.declared.inbox_rooms.InboxRooms.{InboxRooms}
use Rattle.sm_history.specs.declared.notice.Notice.{Notice}

-- These are the checks of a notice, if this many deliveries still fit into the watcher's inbox.
abbrev pub told_checks : Effects → Node → Watch → ℕ → List Check
told_checks d n w left =
    to_label d w.client w.name finding
    ∷ from_manager d w.client calling
    ∷ from_manager d w.client transferring
    ∷ Wants (nat_lt 0 left && fits_handles (handed d w.client n) w.client) (Refused (Failed TargetFull))
    ∷ []

-- This is the grant by which an object reaches a client.
abbrev pub gives_of : ℕ → Node → Given → List Effect
gives_of c n (Handle r) = Gives c n r ∷ []
gives_of c n _ = []

-- A watcher gets this delivery, with the object as it reaches it.
abbrev pub told_to : Watch → Given → Delivery
told_to w g = record { object = w.object; what = Registered w.name g }

-- This many deliveries fit into a client's inbox.
abbrev pub free_at : Effects → ℕ → ℕ
free_at d c = MOST_DELIVERIES - length (inbox_at d c)

-- Since d, effects e have only notified watchers of an object n, as far as rules and handles see.
pub record AsBefore (d e : Effects) (n : Node) : Type 0 where
  pub sound : Sound e
  pub policy : policy_at e ≡ policy_at d
  pub manager : manager_at e ≡ manager_at d
  pub who : (c : ℕ) → identity_at e c ≡ identity_at d c
  pub lives : (c : ℕ) → is_live e c ≡ is_live d c
  pub numbers : (c : ℕ) → is_live d c ≡ true → number_for e c n ≡ number_for d c n
  pub fits : (c : ℕ) → is_live d c ≡ true → fits_handles (handed e c n) c ≡ fits_handles (handed d c n) c

-- These effects may be put onto d, and concern only n.
pub record MayTell (d : Effects) (n : Node) (xs : List Effect) : Type 0 where
  pub before : AsBefore d (followed d xs) n
  pub may : MayAllApart d xs
  pub none_dies : list_any is_death xs ≡ false

-- This many deliveries still fit into an inbox of a notified client.
abbrev pub left_in : InboxRooms → ℕ → Option ℕ
left_in rooms c = left_of rooms.rows.items c

-- This many deliveries still fit into a client's inbox.
abbrev pub left_at : Effects → InboxRooms → ℕ → ℕ
left_at d rooms c = unwrap_or (left_in rooms c) (free_at d c)

-- This holds of the drafted effects while watchers of n are being notified.
pub record AreNotifications (d : Effects) (n : Node) (draft : Draft) (rooms : InboxRooms) : Type 0 where
  pub may : MayTell d n draft.effects.items
  pub left : (c : ℕ) → is_live d c ≡ true → left_at d rooms c ≡ free_at (followed d draft.effects.items) c

-- One more watcher was notified, or wasn't.
pub record GoesOn (m : Moment) (d : Effects) (n : Node) (w : Watch) (old new : Draft) (rooms : InboxRooms) : Type 0
  where
    pub told : new.told.items ≡ old.told.items ++ left_by_all m (notice_checks (followed d old.effects.items) n w)
    pub records : new.records ≡ old.records
    pub notifications : AreNotifications d n new rooms
    pub after : followed d new.effects.items ≡ after_notice (followed d old.effects.items) n w

-- Watchers were notified, or weren't, in order.
pub record GoesFar (m : Moment) (d : Effects) (n : Node) (ws : List Watch) (old new : Draft) (rooms : InboxRooms)
    : Type 0 where
  pub told : new.told.items ≡ old.told.items ++ left_by_notices m (followed d old.effects.items) n ws
  pub records : new.records ≡ old.records
  pub notifications : AreNotifications d n new rooms
  pub after : followed d new.effects.items ≡ after_notices (followed d old.effects.items) n ws

-- These effects may be put onto d before watchers of n are notified, and put nothing into an inbox.
pub record MayPrecede (d : Effects) (n : Node) (xs : List Effect) : Type 0 where
  pub may : MayTell d n xs
  pub inboxes : (c : ℕ) → inbox_at (followed d xs) c ≡ inbox_at d c

-- This is a draft with notices.
pub record Tells (d after : Effects) (draft : Draft) : Type 0 where
  pub effects : followed d draft.effects.items ≡ after
  pub may : MayAllApart d draft.effects.items
  pub none_dies : list_any is_death draft.effects.items ≡ false

-- These watchers were notified, or weren't, after the effects that were drafted before, and these are the notices.
pub record TellsAll (m : Moment) (d : Effects) (n : Node) (ws : List Watch) (old new : Draft) (made : List Notice)
    : Type 0 where
  pub notices : made ≡ notices_at (followed d old.effects.items) n ws
  pub told : new.told.items ≡ old.told.items ++ left_by_notices m (followed d old.effects.items) n ws
  pub records : new.records ≡ old.records
  pub tells : Tells d (after_notices (followed d old.effects.items) n ws) new
