-- The result of a script's run.
use Rattle.std.specs.Prelude.{◌≡◌, ◌⊎◌, ℕ, List, [], false, Option, None, IsSomeAnd, Result, Ok, Err}
use Rattle.sm_values.specs.declared.class.Class.TheVariants.{Binder}
use Rattle.sm_values.specs.Contexts.{type_of}
use Rattle.sm_policy.specs.Policy.{Policy, allowed}
use Rattle.sm_values.specs.Reading.{Fails}
use Rattle.sm_policy.specs.Preparing.{is_memory, prepared}
use Rattle.sm_history.specs.declared.refusal.Refusal.{Refusal, TheVariants.Memory}
use Rattle.sm_history.specs.Checks.{managing}
use Rattle.sm_history.specs.Lawful.{MayOpen}
use Rattle.sm_history.specs.Books.{Book}
use Rattle.sm_core.specs.Opening.{opened, opening_denial, the_manager}
use Rattle.sm_engine.specs.declared.fault.Fault.{Fault}
use Rattle.sm_engine.specs.Running.{Served, never}
use Rattle.sm_wire.specs.declared.kind.Kind.TheVariants.{Script}
use Rattle.sm_script.specs.declared.script_fault.ScriptFault.{ScriptFault}
use Rattle.sm_script.specs.declared.script_fault.ScriptFault.TheVariants.{Policy as PolicyRefused, Opening, Engine}
use Rattle.sm_script.specs.Answering.{ScriptAnswers, Recorded, script_held_limit}

-- This is the book of a manager that was just opened.
abbrev pub opened_manager : ℕ → Policy → Book
opened_manager places policy = opened places the_manager policy

-- The files are those of a policy that lets the manager open, and this is the manager; there is no record.
pub record Opens (rules contexts : List ℕ) (places : ℕ) (manager : Recorded) : Type 0 where
  pub policy : Policy
  pub reads : prepared rules contexts ≡ Ok policy
  pub may_open : MayOpen the_manager policy
  pub opens : manager ≡ record { book = opened_manager places policy; ring = [] }

-- The policy doesn't let the manager open, and the refusal names the missing rule; or an allocation failed.
abbrev pub MayNotOpen : Policy → Refusal → Type 0
MayNotOpen policy refusal =
    (refusal ≡ Memory)
    ⊎ ((allowed policy (type_of the_manager.context) (type_of the_manager.context) Binder managing ≡ false)
    × (refusal ≡ opening_denial the_manager))

-- The files are those of a policy under which the manager wasn't opened.
pub record OpeningFails (rules contexts : List ℕ) (refusal : Refusal) : Type 0 where
  pub policy : Policy
  pub reads : prepared rules contexts ≡ Ok policy
  pub fails : MayNotOpen policy refusal

-- Nothing was run, for this reason.
abbrev pub NotRun : List ℕ → List ℕ → ScriptFault → Type 0
NotRun rules contexts (PolicyRefused fault) = Fails is_memory fault (prepared rules contexts)
NotRun rules contexts (Opening refusal) = OpeningFails rules contexts refusal
NotRun rules contexts (Engine fault) = ⊥

-- The engine read and wrote this, from a manager that was just opened to the last one.
pub record Ran (rules contexts : List ℕ) (places bound reads : ℕ) (result : Result (Unit {0}) Fault)
    (r r_new w w_new a a_new : Option (List ℕ)) (last : Recorded) : Type 0 where
  pub first : Recorded
  pub opened_first : Opens rules contexts places first
  pub served : Served Script ScriptAnswers never script_held_limit result bound reads first r r_new w w_new a a_new last

-- A script has this result, and this manager is left, if one was opened.
abbrev pub RunsScript : Result (Unit {0}) ScriptFault → List ℕ → List ℕ → ℕ → ℕ → ℕ → Option (List ℕ) → Option (List ℕ)
    → Option (List ℕ) → Option (List ℕ) → Option (List ℕ) → Option (List ℕ) → Option Recorded → Type 0
RunsScript (Ok x) rules contexts places bound reads r r_new w w_new a a_new left =
    IsSomeAnd left (Ran rules contexts places bound reads (Ok x) r r_new w w_new a a_new)
RunsScript (Err (Engine fault)) rules contexts places bound reads r r_new w w_new a a_new left =
    IsSomeAnd left (Ran rules contexts places bound reads (Err fault) r r_new w w_new a a_new)
RunsScript (Err (PolicyRefused fault)) rules contexts places bound reads r r_new w w_new a a_new left =
    NotRun rules contexts (PolicyRefused fault) × (left ≡ None)
RunsScript (Err (Opening refusal)) rules contexts places bound reads r r_new w w_new a a_new left =
    NotRun rules contexts (Opening refusal) × (left ≡ None)

-- This holds if nothing was run.
abbrev pub IfNotRun : Result (Unit {0}) ScriptFault → Type 0 → Type 0
IfNotRun (Ok x) fact = Unit {0}
IfNotRun (Err (Engine fault)) fact = Unit {0}
IfNotRun (Err (PolicyRefused fault)) fact = fact
IfNotRun (Err (Opening refusal)) fact = fact
