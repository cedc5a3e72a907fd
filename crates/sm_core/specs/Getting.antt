-- A get, judged part by part.
use Rattle.std.specs.Prelude.{ℕ, List, [], ◌∷◌, Option, is_some, not}
use Rattle.sm_history.specs.declared.service.Service.{Service}
use Rattle.sm_history.specs.EarlyAnswers.{GotNull}
use Rattle.sm_history.specs.Effects.{Effects}
use Rattle.sm_history.specs.Checks.{Check, Wants, to_manager, to_label, calling, finding}
use Rattle.sm_history.specs.Verdict.{not_isolated, service_meets}

-- These are the checks of a get up to its service, by the service that the name has.
abbrev pub sight_checks : Effects → ℕ → List ℕ → Option Service → List Check
sight_checks d c name found =
    to_manager d c calling
    ∷ not_isolated d c name (service_meets (λ s. not s.allow_isolated) found)
    ∷ to_label d c name finding
    ∷ Wants (is_some found) GotNull
    ∷ []
