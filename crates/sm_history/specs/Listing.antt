-- What the outcomes of changes list, and what the effects of a history did.
use Rattle.std.specs.Prelude.{ℕ, ◌≡◌, List, [], ◌∷◌, ◌++◌, Option, Some, None, filter_map, reverse}
use Rattle.sm_history.specs.declared.delivery.Given.{Given, TheVariants.Handle, TheVariants.Own, TheVariants.Null}
use Rattle.sm_history.specs.declared.delivery.Delivery.{Delivery}
use Rattle.sm_history.specs.declared.delivery.Message.{Message, TheVariants.Called, TheVariants.Registered}
use Rattle.sm_history.specs.declared.notice.Told.{Told, TheVariants.Told as IsTold, TheVariants.NotTold}
use Rattle.sm_history.specs.declared.notice.Notice.{Notice}
use Rattle.sm_history.specs.declared.outcome.Outcome.{Outcome}
use Rattle.sm_history.specs.declared.outcome.Outcome.TheVariants.{Connected, Added, Granted, Watched, Sent}
use Rattle.sm_history.specs.declared.entry.Entry.{Entry}
use Rattle.sm_history.specs.Effects.{Effect, Gives, Delivers}
use Rattle.sm_history.specs.Clients.{connected}
use Rattle.sm_history.specs.Rows.{resumed}
use Rattle.sm_history.specs.Histories.{History, effects_of}
use Rattle.sm_history.specs.Lawful.{IsLawful}

-- ---- what an outcome lists

-- This is the delivery of a notice, if the watcher was notified.
abbrev pub told_deliveries : Told → List Delivery
told_deliveries (IsTold x) = x ∷ []
told_deliveries (NotTold reason) = []

-- These are the deliveries of notices, in order.
abbrev pub notice_deliveries : List Notice → List Delivery
notice_deliveries [] = []
notice_deliveries (n ∷ ns) = told_deliveries n.result ++ notice_deliveries ns

-- These are the deliveries in an outcome, in order.
abbrev pub listed_deliveries : Outcome → List Delivery
listed_deliveries (Sent x) = x ∷ []
listed_deliveries (Added notices) = notice_deliveries notices
listed_deliveries (Watched (Some notice)) = told_deliveries notice.result
listed_deliveries _ = []

-- This is the number of a handle in a reference.
abbrev pub number_in : Given → List ℕ
number_in (Handle r) = r ∷ []
number_in (Own o) = []
number_in Null = []

-- These are the numbers of the handles in references.
abbrev pub numbers_in : List Given → List ℕ
numbers_in [] = []
numbers_in (g ∷ gs) = number_in g ++ numbers_in gs

-- These are the numbers of the handles in a message.
abbrev pub message_numbers : Message → List ℕ
message_numbers (Called pid uid payload refs) = numbers_in refs
message_numbers (Registered name given) = number_in given

-- These are the numbers of the handles in deliveries.
abbrev pub delivery_numbers : List Delivery → List ℕ
delivery_numbers [] = []
delivery_numbers (x ∷ xs) = message_numbers x.what ++ delivery_numbers xs

-- These are the numbers of the handles that an outcome grants, in order.
abbrev pub listed_numbers : Outcome → List ℕ
listed_numbers (Granted r) = r ∷ []
listed_numbers (Sent x) = delivery_numbers (x ∷ [])
listed_numbers (Added notices) = delivery_numbers (notice_deliveries notices)
listed_numbers (Watched (Some notice)) = delivery_numbers (told_deliveries notice.result)
listed_numbers _ = []

-- This is the number of a client that connected.
abbrev pub listed_clients : Outcome → List ℕ
listed_clients (Connected c) = c.0 ∷ []
listed_clients _ = []

-- These are the items that the outcomes of changes list, newest first.
abbrev pub all_listed : {A : Type 0} → (Outcome → List A) → List Entry → List A
all_listed lists [] = []
all_listed lists (e ∷ es) = reverse (lists e.outcome) ++ all_listed lists es

-- ---- what effects did, newest first

-- This is the delivery that an effect makes.
abbrev pub delivery_made : Effect → Option Delivery
delivery_made (Delivers c x) = Some x
delivery_made _ = None

-- This is the number of the handle that an effect grants.
abbrev pub number_made : Effect → Option ℕ
number_made (Gives c n r) = Some r
number_made _ = None

-- The effects of a history did exactly what its outcomes list, after what its opening's tables say.
pub record ListsEffects (h : History) : Type 0 where
  pub deliveries : filter_map delivery_made (effects_of h)
      ≡ all_listed listed_deliveries h.entries ++ filter_map delivery_made (resumed h.opening.tables)
  pub numbers : filter_map number_made (effects_of h)
      ≡ all_listed listed_numbers h.entries ++ filter_map number_made (resumed h.opening.tables)
  pub clients : filter_map connected (effects_of h)
      ≡ all_listed listed_clients h.entries ++ filter_map connected (resumed h.opening.tables)

-- The outcomes of a lawful history list exactly the deliveries, handle numbers and clients of its effects.
abbrev pub OutcomesListEffects : Type 0
OutcomesListEffects = (places : ℕ) (h : History) → IsLawful places h → ListsEffects h
