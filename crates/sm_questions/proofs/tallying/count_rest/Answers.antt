use Rattle.std.proofs.Common.{◌≡◌, ◌∙◌, ◌<◌, ℕ, [], length, take, sym, arith}
use Rattle.std.proofs.lemmas.List.{length-take-le}
use Rattle.sm_types.specs.Names.{at}
use Rattle.sm_types.specs.Denoting.{types}
use Rattle.sm_questions.specs.RuleChanges.{lost_of_pair}
use Rattle.sm_questions.proofs.Granted.{kept_lost}
use Rattle.sm_questions.proofs.Tallied.{adds_none, adds_step, few_of_source, front_none, pair_none}
use Rattle.sm_questions.proofs.tallying.count_rest.Goals as goal
use Rattle.sm_questions.proofs.tallying.count_rest.Goals.{then-not-is_kept, else-not-is_kept}

pub loop-target-init : goal.loop-target-init
loop-target-init c =
    rw (front_none 0 c.args.one.now c.args.other.now c.args.source c.args.from c.requires.nothing)
    (adds_none c.args.one.now c.args.counts.now)

pub count_pair-requires-clause-places : goal.count_pair-requires-clause-places
count_pair-requires-clause-places c = omega (arith, c.loop-target.invariant.room, c.requires.places)

pub count_pair-requires-clause-few : goal.count_pair-requires-clause-few
count_pair-requires-clause-few c p inside =
    let one = c.args.one.now in
    let names = types one.statements in
    let target : ℕ = c.loop-target.target in
    let lt : target < length names = omega (arith, c.type_count-target-end.ensures) in
    let low : p < length c.args.counts.now = omega (arith, inside, c.loop-target.invariant.room) in
    let few = few_of_source one c.args.other.now (at names c.args.source) (take target names) p in
    let short : length (take target names) ≡ target = length-take-le target names (omega (arith, lt)) in
    let most = c.requires.few p low in
    let now = c.loop-target.invariant.each p low in
    omega (arith, few, short, most, now, lt)

pub loop-target-preserved : goal.loop-target-preserved
loop-target-preserved c =
    let one = c.args.one.now in
    let other = c.args.other.now in
    let names = types one.statements in
    let f = lost_of_pair one other (at names c.args.source) in
    let target : ℕ = c.loop-target.target in
    let lt : target < length names = omega (arith, c.type_count-target-end.ensures) in
    elim c.if-not-is_kept.branch [
      | then-not-is_kept w ↦ rw w.counts-is (adds_step one c.args.counts.now c.loop-target.counts _ f names target []
          lt c.loop-target.invariant w.count_pair.ensures)
      | else-not-is_kept w ↦
          let some = rw (c.requires.numbers, c.from.ensures) at c.in_ok-there.ensures.some in
          let none = rw (c.requires.numbers, c.from.ensures) at c.in_ok-there.ensures.none in
          let kept = rw (
            c.requires.numbers,
            c.from-in-loop-target.ensures,
            c.deref.ensures.value,
            c.deref-in-loop-target.ensures.value,
          ) at
          (sym c.is_kept.ensures ∙ w.if-not-is_kept.false) in
          let nothing = pair_none 0 one other (at names c.args.source) (at names target)
          (kept_lost 0 one other c.in_ok-here.here.items
          c.in_ok-there.there.items c.args.source target c.requires.source lt
          (c.in_ok-here.ensures.allowed c.requires.source) some none kept) in
          rw w.counts-is (adds_step one c.args.counts.now c.loop-target.counts c.loop-target.counts f names target []
          lt c.loop-target.invariant (rw nothing (adds_none one c.loop-target.counts)))
    ]
