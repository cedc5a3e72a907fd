use Rattle.std.proofs.Common.{◌≡◌, ◌∙◌, ℕ, Some, None, List, arith, sym, true≢false}
use Rattle.std.specs.Prelude.{position}
use Rattle.std.specs.Str.{bytes_eq}
use Rattle.sm_types.specs.Denoting.{types}
use Rattle.sm_types.proofs.Accepted.{declares_type}
use Rattle.sm_policy.proofs.Finding.{unplaced}
use Rattle.sm_unused.specs.Declarations.{is_reached, is_used_type}
use Rattle.sm_unused.proofs.Declared.{has_named}
use Rattle.sm_unused.proofs.uses.Uses.has_type.Goals as goal

pub returns-then-has : goal.returns-then-has
unfolding is_used_type
returns-then-has c =
    let policy = c.args.policy.now in
    let name = c.args.name.now in
    let place = sym c.type_index.ensures ∙ c.in-Some.is in
    let named = has_named policy c.args.self.now.reached (is_reached policy) name c.in-Some.index
    c.requires.uses.reached place in
    grind (arith, c.if-has.true, c.has.ensures, c.from.ensures, named)

pub returns-else-has : goal.returns-else-has
unfolding is_used_type
returns-else-has c =
    let policy = c.args.policy.now in
    let name = c.args.name.now in
    let place = sym c.type_index.ensures ∙ c.in-Some.is in
    let named = has_named policy c.args.self.now.reached (is_reached policy) name c.in-Some.index
    c.requires.uses.reached place in
    grind (arith, c.if-has.false, c.has.ensures, c.from.ensures, named, c.contains.ensures, c.requires.uses.words name)

pub returns-in-None : goal.returns-in-None
returns-in-None c =
    let policy = c.args.policy.now.statements in
    let none = unplaced (bytes_eq c.args.name.now) (types policy) (sym c.type_index.ensures ∙ c.in-None.is) in
    absurd (true≢false (sym c.requires.declared ∙ sym (declares_type c.args.name.now policy) ∙ none))
