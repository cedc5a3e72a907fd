-- What tables need of a change that is applied to them, and what they read of it.
use Rattle.std.specs.Prelude.{ℕ, ◌≡◌, ◌<◌, true, List, [], ◌∷◌}
use Rattle.sm_values.specs.declared.number.Node.{Node}
use Rattle.sm_policy.specs.Policy.{Policy}
use Rattle.sm_history.specs.declared.limits.TheConstants.{GREATEST}
use Rattle.sm_history.specs.declared.delivery.Given.{Given, TheVariants.Null}
use Rattle.sm_history.specs.declared.delivery.Delivery.{Delivery}
use Rattle.sm_history.specs.declared.delivery.Message.{Message, TheVariants.Called, TheVariants.Registered}
use Rattle.sm_history.specs.declared.event.Event.{Event, TheVariants.Open, TheVariants.Connect, TheVariants.Reload}
use Rattle.sm_history.specs.declared.outcome.Outcome.{Outcome}
use Rattle.sm_history.specs.Effects.{Effects}
use Rattle.sm_history.specs.Clients.{is_live, policy_at, version_at}
use Rattle.sm_history.specs.Holdings.{refs_at}
use Rattle.sm_history.specs.Checks.{Check, holds}
use Rattle.sm_history.specs.Histories.{after_event}
use Rattle.sm_history.specs.Verdict.{event_checks, outcome_of}

-- Each count of grants is below the greatest number.
abbrev pub AllFit : Effects → Type 0
AllFit d = (c : ℕ) (n : Node) → refs_at d c n < GREATEST

-- Every check passes.
abbrev pub AllHold : Policy → List Check → Type 0
AllHold p [] = Unit {0}
AllHold p (x ∷ xs) = (holds p x ≡ true) × AllHold p xs

-- A client's event is the event of a live client.
abbrev pub Acts : Effects → ℕ → Event → Type 0
Acts d c (Open who policy) = Unit {0}
Acts d c (Connect who) = Unit {0}
Acts d c (Reload expected policy) = Unit {0}
Acts d c _ = is_live d c ≡ true

-- An event of client c passes its checks.
abbrev pub Passes : Effects → ℕ → Event → Type 0
Passes d c event = AllHold (policy_at d) (event_checks d c event)

-- An event of client c is done on these effects, with this outcome, and the version and the counts after it fit.
pub record IsDone (d : Effects) (c : ℕ) (event : Event) (outcome : Outcome) : Type 0 where
  pub acts : Acts d c event
  pub passes : Passes d c event
  pub outcome_is : outcome ≡ outcome_of d c event
  pub fits : AllFit (after_event d c event)
  pub version : version_at d < GREATEST

-- This is the reference in a message that registers a service.
abbrev pub given_by : Message → Given
given_by (Registered name given) = given
given_by (Called pid uid payload refs) = Null

-- This is the reference in a registration.
abbrev pub given_of : Delivery → Given
given_of x = given_by x.what
