use Rattle.std.proofs.Common.{◌≡◌, ◌<◌, ℕ, [], length, take, arith}
use Rattle.std.proofs.lemmas.List.{length-take-le}
use Rattle.sm_types.specs.Denoting.{types}
use Rattle.sm_questions.specs.RuleChanges.{lost_of_source}
use Rattle.sm_questions.proofs.Tallied.{adds_none, adds_step, all_counted, few_of_sources, source_fits}
use Rattle.sm_questions.proofs.tallying.count_sources.Goals as goal

pub loop-source-init : goal.loop-source-init
loop-source-init c = record { table = c.requires.table; counted = adds_none c.args.one.now c.args.counts.now }

pub count_source-requires-clause-places : goal.count_source-requires-clause-places
count_source-requires-clause-places c = omega (arith, c.loop-source.invariant.counted.room, c.requires.places)

pub count_source-requires-clause-few : goal.count_source-requires-clause-few
count_source-requires-clause-few c p inside =
    let one = c.args.one.now in
    let names = types one.statements in
    let source : ℕ = c.loop-source.source in
    let lt : source < length names = omega (arith, c.type_count-source-end.ensures) in
    let low : p < length c.args.counts.now = omega (arith, inside, c.loop-source.invariant.counted.room) in
    let none = c.requires.none p low in
    let now = c.loop-source.invariant.counted.each p low in
    let few = few_of_sources one c.args.other.now (take source names) p in
    let short : length (take source names) ≡ source = length-take-le source names (omega (arith, lt)) in
    let small : length names < 65536 = omega (arith, c.type_count-source-end.ensures) in
    source_fits (length names) source _ _ lt small (rw short at few) none now

pub loop-source-preserved : goal.loop-source-preserved
loop-source-preserved c =
    let one = c.args.one.now in
    let names = types one.statements in
    let lt : c.loop-source.source < length names = omega (arith, c.type_count-source-end.ensures) in
    record {
      table = c.in_ok-count_source.ensures.table;
      counted = adds_step one c.args.counts.now c.loop-source.counts _ (lost_of_source one c.args.other.now) names
          c.loop-source.source [] lt c.loop-source.invariant.counted c.in_ok-count_source.ensures.counted;
    }

pub returns : goal.returns
returns c =
    let one = c.args.one.now in
    all_counted one c.args.other.now c.args.counts.now c.loop-source.counts c.loop-source.source c.requires.places
    c.requires.none (omega (arith, c.loop-source-test.false, c.type_count-source-end.ensures))
    c.loop-source.invariant.counted
