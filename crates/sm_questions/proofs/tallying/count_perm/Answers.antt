use Rattle.std.proofs.Common.{◌∙◌, refl, sym, arith}
use Rattle.sm_types.specs.Names.{at}
use Rattle.sm_types.specs.Denoting.{types}
use Rattle.sm_questions.specs.RuleChanges.{Access, lost_access}
use Rattle.sm_questions.proofs.Tallied.{adds_none, adds_one, place_before, place_found}
use Rattle.sm_questions.proofs.tallying.count_perm.Goals as goal

pub returns-then-not-is_lost : goal.returns-then-not-is_lost
unfolding lost_access
returns-then-not-is_lost c =
    rw (sym c.is_lost.ensures ∙ c.if-not-is_lost.true) (adds_none c.args.one.now c.args.counts.now)

pub count_at-requires-clause-place : goal.count_at-requires-clause-place
count_at-requires-clause-place c =
    let one = c.args.one.now in
    let names = types one.statements in
    let a : Access =
    record { source = at names c.args.source; target = at names c.args.target; perm = c.args.bit } in
    let is = place_found one a c.place.ensures (omega (arith, c.requires.places)) c.line-line.ensures
    (c.requires.table.line c.args.bit c.requires.bit) in
    omega (arith, is, place_before one a, c.requires.places)

pub returns : goal.returns
unfolding lost_access
returns c =
    let one = c.args.one.now in
    let names = types one.statements in
    let a : Access =
    record { source = at names c.args.source; target = at names c.args.target; perm = c.args.bit } in
    let is = place_found one a c.place.ensures (omega (arith, c.requires.places)) c.line-line.ensures
    (c.requires.table.line c.args.bit c.requires.bit) in
    rw (sym c.is_lost.ensures ∙ c.if-not-is_lost.false)
    (adds_one one c.args.counts.now _ a _ _ c.requires.places is c.count_at.ensures refl)
