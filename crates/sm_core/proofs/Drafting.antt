-- Drafts of one effect.
use Rattle.std.proofs.Common.{◌≡◌, ℕ, true, Some, List, [], ◌∷◌, refl, ap, ◌∙◌, sym, subst}
use Rattle.sm_history.specs.declared.event.Event.{Event}
use Rattle.sm_history.specs.declared.outcome.Outcome.{Outcome}
use Rattle.sm_history.specs.declared.effect.Effect.{Effect}
use Rattle.sm_history.specs.Effects.{Effects}
use Rattle.sm_values.specs.declared.number.Node.{Node}
use Rattle.sm_history.specs.declared.event.Event.TheVariants.{Release, Unwatch}
use Rattle.sm_history.specs.declared.outcome.Outcome.TheVariants.{Released}
use Rattle.sm_history.specs.declared.effect.Effect.TheVariants.{Releases, Unwatches}
use Rattle.sm_history.specs.declared.effect.Watch.{Watch}
use Rattle.sm_history.specs.Records.{Moment, left_by_telling}
use Rattle.sm_history.specs.Clients.{is_live}
use Rattle.sm_history.specs.Holdings.{node_at}
use Rattle.sm_history.proofs.HeldAlike.{node_held}
use Rattle.sm_history.specs.Following.{MayFollowApart, MayAllApart, followed}
use Rattle.sm_history.specs.Histories.{after_event, found, watch}
use Rattle.sm_history.specs.Verdict.{outcome_of}
use Rattle.sm_history.specs.Lawful.{HasSoundPolicy}
use Rattle.sm_core.specs.declared.draft.Draft.{Draft}
use Rattle.sm_core.specs.Stands.{DeathIsLast}
use Rattle.sm_core.specs.Judging.{IsDrafted}

pub one_effect : (m : Moment) (d : Effects) (c : ℕ) (event : Event) (draft : Draft) (outcome : Outcome) (x : Effect)
    → draft.told.items ≡ left_by_telling m d c event → draft.effects.items ≡ x ∷ []
    → x ∷ d ≡ after_event d c event → MayFollowApart d x → outcome ≡ outcome_of d c event → HasSoundPolicy event
    → IsDrafted m d c event draft outcome
one_effect m d c event draft outcome x told items is may out sound = record {
  outcome = out;
  told = told;
  effects = ap (followed d) items ∙ is;
  may = subst (MayAllApart d) (sym items) (may, tt);
  last = subst DeathIsLast (sym items) ((λ e. refl), tt);
  sound = sound;
}

-- A Release of what a handle names.
pub release_drafted : (m : Moment) (d : Effects) (c handle : ℕ) (n : Node) (draft : Draft) → Some n ≡ node_at d c handle
    → is_live d c ≡ true → draft.told.items ≡ [] → draft.effects.items ≡ Releases c n ∷ []
    → IsDrafted m d c (Release handle) draft Released
release_drafted m d c handle n draft is live none items =
    one_effect m d c (Release handle) draft Released (Releases c n) none items
    (ap (λ o. Releases c (found o) ∷ d) is) (live, (node_held d c handle n (sym is)).0) refl tt

-- An Unwatch of watches that there are.
pub unwatch_drafted : (m : Moment) (d : Effects) (c : ℕ) (name : List ℕ) (object : ℕ) (w : Watch) (draft : Draft)
    (outcome : Outcome) → w ≡ watch c name object → is_live d c ≡ true → draft.told.items ≡ []
    → draft.effects.items ≡ Unwatches w ∷ [] → outcome ≡ outcome_of d c (Unwatch name object)
    → IsDrafted m d c (Unwatch name object) draft outcome
unwatch_drafted m d c name object w draft outcome is live none items out =
    one_effect m d c (Unwatch name object) draft outcome (Unwatches w) none items
    (ap (λ (u : Watch). let e : Effects = Unwatches u ∷ d in e) is)
    (subst (λ (u : Watch). is_live d u.client ≡ true) (sym is) live) out tt
