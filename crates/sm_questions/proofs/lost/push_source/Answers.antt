use Rattle.std.proofs.Common.{◌≡◌, refl, take, arith}
use Rattle.std.proofs.lemmas.List.{append-nil, take_all}
use Rattle.sm_types.specs.Denoting.{types}
use Rattle.sm_questions.specs.Differences.{lost_source}
use Rattle.sm_questions.proofs.lost.push_source.Goals as goal

pub returns-then-from-type_count : goal.returns-then-from-type_count
unfolding lost_source
returns-then-from-type_count c =
    let names = types c.args.one.now.statements in
    let whole : take c.kept_end-from.result names ≡ names =
    take_all c.kept_end-from.result names (omega (arith, c.if-from-type_count.true, c.type_count.ensures)) in
    let nothing = rw whole at (c.kept_end-from.ensures.nothing c.args.sign) in
    rw (nothing, append-nil c.args.held.now.items) refl
