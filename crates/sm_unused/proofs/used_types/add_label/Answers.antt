use Rattle.std.proofs.Common.{◌≡◌, ◌∙◌, ◌<◌, ℕ, Some, List, length, arith, sym, ap}
use Rattle.sm_values.specs.Contexts.{type_of}
use Rattle.sm_types.specs.Denoting.{types}
use Rattle.sm_types.specs.Names.{at}
use Rattle.std.specs.Prelude.{slice_get}
use Rattle.sm_unused.proofs.Declared.{no_type_named, of_entry, placed_is, turned}
use Rattle.sm_unused.proofs.used_types.add_label.Goals as goal

pub returns-in-Some-type_index-clause-added : goal.returns-in-Some-type_index-clause-added
returns-in-Some-type_index-clause-added c t lt =
    let names = types c.args.policy.now.statements in
    let context = c.in-Some.context.now in
    let seen = rw (c.in-Some.is, c.contexts.ensures) at c.entry.ensures in
    let of = of_entry (at names t) context c.in-Some.field-0-0 (slice_get c.args.policy.now.entries c.args.i) (sym seen) in
    let place = rw c.type_name.ensures at (sym c.type_index.ensures ∙ c.in-Some-type_index.is) in
    let there = placed_is names (type_of context) c.in-Some-type_index.index t c.requires.distinct lt place in
    grind (arith, c.insert.ensures.added t, c.from.ensures, of, there)

pub returns-in-None-clause-added : goal.returns-in-None-clause-added
returns-in-None-clause-added c t lt =
    let names = types c.args.policy.now.statements in
    let context = c.in-Some.context.now in
    let seen = rw (c.in-Some.is, c.contexts.ensures) at c.entry.ensures in
    let of = of_entry (at names t) context c.in-Some.field-0-0 (slice_get c.args.policy.now.entries c.args.i) (sym seen) in
    let place = rw c.type_name.ensures at (sym c.type_index.ensures ∙ c.in-None.is) in
    grind (arith, of, turned (at names t) (type_of context), no_type_named names (type_of context) t place lt)
