use Rattle.std.proofs.Common.{◌≡◌, ◌+◌, ◌<◌, ◌⊎◌, inl, inr, Bool, ℕ, true, List, rules, arith}
use Rattle.std.proofs.Common.{length, drop, get_or, ◌∙◌}
use Rattle.std.specs.List.{list_any}
use Rattle.sm_history.specs.Clients.{is_connect_of}
use Rattle.sm_history.specs.declared.effect.Effect.{Effect}
use Rattle.sm_core.specs.Stands.{gives_to, is_connect, is_named}
use Rattle.sm_core.proofs.ListSteps.{further_at}
use Rattle.sm_core.proofs.state.State.reserve.Goals as goal

-- What an element calls for is there after it, or one further on calls for it.
stepped : (p : Effect → Bool) (Had Has : Type 0) (xs : List Effect) (i : ℕ) (x : Effect) → x ≡ get_or xs i x
    → i < length xs → (Had → Has) → (p x ≡ true → Has) → Had ⊎ (list_any p (drop i xs) ≡ true)
    → Has ⊎ (list_any p (drop (i + 1) xs) ≡ true)
stepped p Had Has xs i x is lt kept here (inl had) = inl (kept had)
stepped p Had Has xs i x is lt kept here (inr any) =
    elim (further_at p xs i x is lt any) as (λ s. Has ⊎ (list_any p (drop (i + 1) xs) ≡ true)) [
      | inl e ↦ inl (here e)
      | inr later ↦ inr later
    ]

pub loop-effect-preserved : goal.loop-effect-preserved
loop-effect-preserved c =
    let i = c.loop-effect.invariant in
    let xs = c.args.effects.now in
    let x = c.effect-item.result in
    let lt : c.loop-effect.effect-index < length xs = search rules in
    let step = λ (p : Effect → Bool) (Had Has : Type 0).
    stepped p Had Has xs c.loop-effect.effect-index x c.effect-item.is lt in
    let kept = c.in_ok-reserve_for.ensures.kept in
    let room = c.in_ok-reserve_for.ensures.room in record {
      stands = λ d s. c.reserve_for.ensures.stands d (i.stands d s);
      others = (kept.version ∙ i.others.0, kept.next ∙ i.others.1);
      clients = λ any. step is_connect _ _ kept.clients room.clients (i.clients any);
      names = λ any. step is_named _ _ kept.names room.names (i.names any);
      handles = λ k any. step (gives_to k) _ _
          (λ le. let more = kept.handles k in omega (arith, le, more))
          (room.handles k) (i.handles k any);
      inboxes = λ k any. step (is_connect_of k) _ _ (kept.inboxes k) (room.inboxes k) (i.inboxes k any);
    }
