-- The effects of accepted changes. Every table of the manager is a count, a filter or a search over them.
use Rattle.std.specs.Prelude.{Bool, List, ◌&&◌, ◌==◌}
use Rattle.sm_values.specs.declared.number.Node.{Node}
pub use Rattle.sm_history.specs.declared.service.Service.{Service}
pub use Rattle.sm_history.specs.declared.effect.Watch.{Watch}
pub use Rattle.sm_history.specs.declared.effect.Effect.{Effect}
pub use Rattle.sm_history.specs.declared.effect.Effect.TheVariants.{Opens, Sets, Connects, Dies, Adds, Removes, Gives}
pub use Rattle.sm_history.specs.declared.effect.Effect.TheVariants.{Releases, Watches, Unwatches, Delivers, Takes}
pub use Rattle.sm_history.specs.declared.effect.Effect.TheVariants.{Resumes}

-- The effects so far, newest first.
abbrev pub Effects : Type 0
Effects = List Effect

-- Two objects are the same.
abbrev pub same_node : Node → Node → Bool
same_node a b = (a.owner.0 == b.owner.0) && (a.object == b.object)
