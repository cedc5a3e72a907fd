-- A call, judged part by part.
use Rattle.std.specs.Prelude.{ℕ, ◌≡◌, ◌&&◌, List, [], ◌∷◌, ◌++◌, Option, is_some}
use Rattle.sm_values.specs.declared.number.Node.{Node}
use Rattle.sm_history.specs.declared.delivery.Delivery.{Delivery}
use Rattle.sm_history.specs.declared.delivery.Message.TheVariants.{Called}
use Rattle.sm_history.specs.declared.effect.Effect.{Effect, TheVariants.Gives, TheVariants.Delivers}
use Rattle.sm_history.specs.declared.outcome.Outcome.{Outcome, TheVariants.Sent}
use Rattle.sm_history.specs.declared.refusal.Refusal.TheVariants.{Failed, Dead}
use Rattle.sm_history.specs.declared.refusal.Failure.TheVariants.{BadHandle, TargetFull}
use Rattle.sm_history.specs.EarlyAnswers.{Refused}
use Rattle.sm_history.specs.Effects.{Effects}
use Rattle.sm_history.specs.Clients.{identity_at}
use Rattle.sm_history.specs.Checks.{Check, Wants, to_client, calling, transferring}
use Rattle.sm_history.specs.Holdings.{fits_handles}
use Rattle.sm_history.specs.Histories.{found}
use Rattle.sm_history.specs.Inboxes.{has_inbox_room}
use Rattle.sm_history.specs.Verdict.{owner_lives}
use Rattle.sm_grants.specs.Several.{after_grants, numbers_for}
use Rattle.sm_grants.specs.Handing.{others, given_as}
use Rattle.sm_core.specs.declared.draft.Draft.{Draft}

-- These are the checks of a call up to its references, by the object of the handle.
abbrev pub target_checks : Effects → ℕ → Option Node → List Check
target_checks d c node =
    Wants (is_some node) (Refused (Failed BadHandle))
    ∷ Wants (owner_lives d (found node)) (Refused Dead)
    ∷ to_client d c (found node).owner.0 calling
    ∷ []

-- These are the checks of a reference to client k that isn't null, by the object that it names.
abbrev pub passing_checks : Effects → ℕ → ℕ → Option Node → List Check
passing_checks d c k node =
    Wants (is_some node) (Refused (Failed BadHandle)) ∷ to_client d c k transferring ∷ []

-- This is the check of a receiver's room for a delivery and for handles to these objects.
abbrev pub room_check : Effects → ℕ → List Node → List Check
room_check d k nodes =
    Wants (has_inbox_room d k && fits_handles (after_grants d k nodes) k) (Refused (Failed TargetFull)) ∷ []

-- These are grants of objects under these numbers, in order.
abbrev pub gives_of : ℕ → List Node → List ℕ → List Effect
gives_of k [] rs = []
gives_of k (n ∷ ns) [] = []
gives_of k (n ∷ ns) (r ∷ rs) = Gives k n r ∷ gives_of k ns rs

-- A call of client c delivers this to the owner of an object, by the objects that its references name.
abbrev pub sent : Effects → ℕ → Node → List ℕ → List (Option Node) → Delivery
sent d c n payload named =
    let who = identity_at d c in
    let k = n.owner.0 in
    let refs = given_as k named (numbers_for d k (others k named)) in
    record { object = n.object; what = Called who.pid who.uid payload refs }

-- This is what a call drafts, and its outcome, by the objects that its references name.
pub record Sends (d : Effects) (c : ℕ) (n : Node) (payload : List ℕ) (named : List (Option Node)) (old new : Draft)
    (made : Outcome) : Type 0 where
  pub told : new.told ≡ old.told
  pub records : new.records ≡ old.records
  pub outcome : made ≡ Sent (sent d c n payload named)
  pub effects : new.effects.items
      ≡ gives_of n.owner.0 (others n.owner.0 named) (numbers_for d n.owner.0 (others n.owner.0 named))
      ++ Delivers n.owner.0 (sent d c n payload named) ∷ []
