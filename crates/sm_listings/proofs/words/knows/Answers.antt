use Rattle.std.proofs.Common.{◌≡◌, ◌∙◌, is_some, ap, arith}
use Rattle.std.specs.List.{list_any}
use Rattle.std.specs.Str.{bytes_eq}
use Rattle.sm_types.specs.Denoting.{types}
use Rattle.sm_listings.proofs.Positions.{some_place}
use Rattle.sm_listings.proofs.words.knows.Goals as goal

pub returns-then-is_some : goal.returns-then-is_some
returns-then-is_some c =
    let p = bytes_eq c.args.word.now in
    let some = c.is_some.ensures ∙ ap is_some c.index.ensures.place ∙ some_place p c.types.result.now.symbols.types in
    let known : c.is_some.result ≡ list_any p (types c.args.policy.now.statements) = rw c.types.ensures.types at some in
    grind (arith, known, c.if-is_some.true)

pub returns-else-is_some : goal.returns-else-is_some
returns-else-is_some c =
    let p = bytes_eq c.args.word.now in
    let some = c.is_some.ensures ∙ ap is_some c.index.ensures.place ∙ some_place p c.types.result.now.symbols.types in
    let known : c.is_some.result ≡ list_any p (types c.args.policy.now.statements) = rw c.types.ensures.types at some in
    grind (arith, known, c.if-is_some.false, c.knows_attribute.ensures)
