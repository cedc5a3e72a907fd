use Rattle.std.proofs.Common.{◌≡◌, Some, refl}
use Rattle.sm_types.specs.Denoting.{types}
use Rattle.sm_neverallow.specs.Violating.{IsFirstViolation}
use Rattle.sm_policy.specs.Preparing.{unbroken}
use Rattle.sm_policy.specs.Violating.{first_violation, named_violation}
use Rattle.sm_policy.proofs.Firsts.{violation_is}
use Rattle.sm_policy.proofs.preparing.refuse_violation.Goals as goal

pub returns-in_ok-named-in-Some-clause-exact : goal.returns-in_ok-named-in-Some-clause-exact
unfolding unbroken
returns-in_ok-named-in-Some-clause-exact c = λ policy typed ruled.
    let first = rw c.in-Some.is at c.in_ok-violation.ensures.some in
    let is : IsFirstViolation policy (types policy) c.in-Some.violation =
    rw (← typed.types) (first policy c.args.types.now.symbols.types ruled) in
    let e : first_violation policy ≡ Some (named_violation (types policy) c.in-Some.violation) =
    violation_is policy c.in-Some.violation is in
    rw (e, ← typed.types, ← c.in_ok-named-in-Some.ensures) refl
