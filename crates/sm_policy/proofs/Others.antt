-- Refusals other than for a neverallow rule.
use Rattle.std.proofs.Common.{◌≡◌, Result, arith}
use Rattle.std.specs.Result.{IfErr, IsErrAnd}
use Rattle.sm_policy.specs.declared.violation.Violation.{Violation}
use Rattle.sm_policy.specs.declared.fault.PolicyFault.{PolicyFault}
use Rattle.sm_policy.specs.declared.fault.PolicyFault.TheVariants.{Neverallow}
use Rattle.sm_policy.specs.Breaking.{IfNeverallow}

pub never : (e : PolicyFault) (P : Violation → Type 0) → IfNeverallow e (λ _. ⊥) → IfNeverallow e P
never (Neverallow v) P h = absurd h
never e P h = tt

pub other : {A : Type 0} (result : Result A PolicyFault) (e : PolicyFault) (P : Violation → Type 0)
    → IsErrAnd result (λ f. f ≡ e) → IfNeverallow e (λ _. ⊥) → IfErr result (λ f. IfNeverallow f P)
other result e P same h = grind (arith, never e P h)
