use Rattle.std.proofs.Common.{sym, ◌∙◌, ap, List, ℕ, ◌++◌, ◌∷◌, [], map, subst}
use Rattle.sm_types.specs.Names.{Distinct}
use Rattle.sm_types.proofs.Mapped.{inserted}
use Rattle.sm_types.proofs.NameLemmas.{distinct_more}
use Rattle.sm_types.proofs.name_set.NameSet.insert.Goals as goal

pub invariant_of-self-2 : goal.invariant_of-self-2
invariant_of-self-2 c =
    let none = rw (← c.self.view_is) at c.requires in
    let e = inserted (λ k. k.items) c.self.inside.names.keys c.insert.new.self.keys c.in_ok-name.name c.args.name.now
    c.in_ok-insert.ensures.keys c.in_ok-name.ensures.items none in
    subst Distinct (sym e) (distinct_more (map (λ k. k.items) c.self.inside.names.keys) c.args.name.now c.self.invariant
    none)

pub returns : goal.returns
returns c =
    let none = rw (← c.self.view_is) at c.requires in
    inserted (λ k. k.items) c.self.inside.names.keys c.insert.new.self.keys c.in_ok-name.name c.args.name.now
    c.in_ok-insert.ensures.keys c.in_ok-name.ensures.items none
    ∙ ap (λ (xs : List (List ℕ)). xs ++ c.args.name.now ∷ []) c.self.view_is
