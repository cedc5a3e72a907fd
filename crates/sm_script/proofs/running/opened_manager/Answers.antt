use Rattle.std.proofs.Common.{[], ◌≡◌, ◌⊎◌, MatchResult, Result, Ok, Err, IfOk, IfErr, false, subst}
use Rattle.sm_values.specs.declared.class.Class.TheVariants.{Binder}
use Rattle.sm_values.specs.declared.identity.Identity.{Identity}
use Rattle.sm_values.specs.Contexts.{type_of}
use Rattle.sm_policy.specs.Policy.{allowed}
use Rattle.sm_history.specs.declared.refusal.Refusal.TheVariants.{Memory}
use Rattle.sm_history.specs.Checks.{managing}
use Rattle.sm_history.specs.Lawful.{MayOpen}
use Rattle.sm_core.specs.Opening.{opened, opening_denial}
use Rattle.sm_script.proofs.running.opened_manager.Goals as goal

opens : {T E : Type 0} (A B P : T → Type 0) (Q : E → Type 0) (r : Result T E) → IfOk r (λ m. A m × P m) → IfOk r B
    → IfErr r Q → MatchResult r (λ m. A m × P m × B m) Q
opens A B P Q (Ok x) p b q = (p.0, p.1, b)
opens A B P Q (Err e) p b q = q

-- The identity is the manager's.
pub returns-in-Ok : goal.returns-in-Ok
returns-in-Ok c =
    subst (λ (who : Identity). MatchResult c.open.result
    (λ m. MayOpen who c.args.policy × (m.book ≡ opened c.args.places who c.args.policy) × (m.ring ≡ []))
    (λ r. (r ≡ Memory) ⊎ ((allowed c.args.policy (type_of who.context) (type_of who.context) Binder managing ≡ false)
    × (r ≡ opening_denial who))))
    c.in-Ok.ensures (opens _ _ _ _ c.open.result c.open.ensures.opened c.open.ensures.unrecorded c.open.ensures.refused)
