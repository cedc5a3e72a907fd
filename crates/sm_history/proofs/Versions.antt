-- No more policies came into force than changes were made.
use Rattle.std.proofs.Common.{◌≡◌, ℕ, ◌+◌, ◌≤◌, [], ◌∷◌, refl, sym, subst, arith}
use Rattle.sm_policy.specs.Policy.{Policy}
use Rattle.sm_history.specs.declared.event.Event.{Event}
use Rattle.sm_history.specs.declared.event.Event.TheVariants.{Open, Add, Get, Watch as WatchName, Call, Reload}
use Rattle.sm_history.specs.declared.entry.Entry.{Entry}
use Rattle.sm_history.specs.Effects.{Effects, Sets, Opens, Adds, Watches}
use Rattle.sm_history.specs.Clients.{version_at}
use Rattle.sm_history.specs.Holdings.{resolve_at, node_at}
use Rattle.sm_history.specs.Services.{service_at, watchers_at}
use Rattle.sm_history.specs.Histories.{History, whole, length_of, effects_of, client_of, found, after_event, watch}
use Rattle.sm_history.specs.Histories.{service}
use Rattle.sm_history.specs.Lawful.{IsLawful, IsOpening}
use Rattle.sm_history.proofs.Induction.{holds_lawful}
use Rattle.sm_history.proofs.Keeps.{get_keeps, notices_keep, refs_keep, watch_keeps}

-- At most one policy more came into force.
abbrev VersionIn : Effects → Effects → Type 0
VersionIn d e = (version_at d ≤ version_at e) × (version_at e ≤ version_at d + 1)

-- A policy that comes into force is the next one.
pub version_set : (p : Policy) (d : Effects) → version_at (Sets p ∷ d) ≡ version_at d + 1
version_set p d = refl

-- An event puts at most one policy into force.
pub version_after : (d : Effects) (c : ℕ) (event : Event)
    → (version_at d ≤ version_at (after_event d c event)) × (version_at (after_event d c event) ≤ version_at d + 1)
version_after d c (Open who policy) = let one = version_set policy (Opens who ∷ d) in
    (omega (arith, one), omega (arith, one))
version_after d c (Add name obj allow dump) = let n = found (resolve_at d c obj) in
    notices_keep (VersionIn d) (λ k m r e h. h) (λ k x e h. h) (Adds name (service c n allow dump) ∷ d) n
    (watchers_at d name) (omega arith, omega arith)
version_after d c (Get name) =
    get_keeps (VersionIn d) (λ k m r e h. h) d c (service_at d name) (omega arith, omega arith)
version_after d c (WatchName name object) = let w = watch c name object in
    watch_keeps (VersionIn d) (λ k m r e h. h) (λ k x e h. h) (Watches w ∷ d) w (service_at d name)
    (omega arith, omega arith)
version_after d c (Call handle payload refs) =
    refs_keep (VersionIn d) (λ k m r e h. h) d c (found (node_at d c handle)).owner.0 refs (omega arith, omega arith)
version_after d c (Reload expected policy) = let one = version_set policy d in (omega (arith, one), omega (arith, one))
version_after d c _ = (omega arith, omega arith)

abbrev IsSmall : History → Type 0
IsSmall h = version_at (effects_of h) ≤ length_of h

small_opening : (e : Entry) → IsOpening e → IsSmall (whole (e ∷ []))
small_opening e (who, policy, is, may, ok) = subst (λ (x : Entry). IsSmall (whole (x ∷ []))) (sym is) (omega arith)

pub version_small : (places : ℕ) (h : History) → IsLawful places h → version_at (effects_of h) ≤ length_of h
version_small places h l =
    holds_lawful IsSmall (record {
      opens = small_opening;
      goes_on = λ e g m i. let n = (version_after (effects_of g) (client_of e.by) e.event).1 in omega (arith, i, n);
      resumes = λ number a la i. omega (arith, i);
    }) places h l
