use Rattle.std.proofs.Common.{sym, ◌∙◌, ap, position, subst}
use Rattle.std.specs.Str.{bytes_eq}
use Rattle.std.specs.List.{list_any}
use Rattle.sm_types.specs.Names.{Distinct}
use Rattle.sm_types.proofs.Mapped.{list_any_map, position_map}
use Rattle.sm_types.proofs.NameLemmas.{only_at}
use Rattle.sm_types.proofs.name_set.NameSet.index.Goals as goal

pub returns-clause-place : goal.returns-clause-place
returns-clause-place c = c.get_index_of.ensures.index
    ∙ (sym (position_map (bytes_eq c.args.name.now) (λ k. k.items) c.self.inside.names.keys)
    ∙ ap (position (bytes_eq c.args.name.now)) c.self.view_is)

pub returns-clause-only : goal.returns-clause-only
returns-clause-only c =
    only_at c.args.self.now c.args.name.now c.get_index_of.result
    (subst Distinct c.self.view_is c.self.invariant)
    (sym (c.get_index_of.ensures.index ∙
    (sym (position_map (bytes_eq c.args.name.now) (λ k. k.items) c.self.inside.names.keys)
    ∙ ap (position (bytes_eq c.args.name.now)) c.self.view_is)))
    (c.get_index_of.ensures.found ∙ (sym
    (list_any_map (bytes_eq c.args.name.now) (λ k. k.items) c.self.inside.names.keys)
    ∙ ap (list_any (bytes_eq c.args.name.now)) c.self.view_is))

pub returns-clause-known : goal.returns-clause-known
returns-clause-known c = c.get_index_of.ensures.found
    ∙ (sym (list_any_map (bytes_eq c.args.name.now) (λ k. k.items) c.self.inside.names.keys)
    ∙ ap (list_any (bytes_eq c.args.name.now)) c.self.view_is)
