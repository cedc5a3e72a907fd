use Rattle.std.proofs.Common.{◌≡◌, ◌<◌, ℕ, length, take, arith}
use Rattle.std.proofs.lemmas.List.{length-take-le}
use Rattle.sm_types.specs.Names.{at}
use Rattle.sm_types.specs.Denoting.{types}
use Rattle.sm_questions.specs.Accesses.{perm_numbers}
use Rattle.sm_questions.specs.RuleChanges.{lost_access}
use Rattle.sm_questions.proofs.Tallied.{adds_none, adds_step, few_of_pair}
use Rattle.sm_questions.proofs.Permissions.{number_there}
use Rattle.sm_questions.proofs.tallying.count_pair.Goals as goal

pub loop-bit-init : goal.loop-bit-init
loop-bit-init c = adds_none c.args.one.now c.args.counts.now

pub count_perm-requires-clause-places : goal.count_perm-requires-clause-places
count_perm-requires-clause-places c = omega (arith, c.loop-bit.invariant.room, c.requires.places)

pub count_perm-requires-clause-few : goal.count_perm-requires-clause-few
count_perm-requires-clause-few c p inside =
    let one = c.args.one.now in
    let names = types one.statements in
    let bit : ℕ = c.loop-bit.bit in
    let lt : bit < 7 = omega arith in
    let low : p < length c.args.counts.now = omega (arith, inside, c.loop-bit.invariant.room) in
    let few = few_of_pair one c.args.other.now (at names c.args.source) (at names c.args.target) bit p in
    let short : length (take bit perm_numbers) ≡ bit = length-take-le bit perm_numbers (omega arith) in
    let most = c.requires.few p low in
    let now = c.loop-bit.invariant.each p low in
    omega (arith, few, short, most, now, lt)

pub loop-bit-preserved : goal.loop-bit-preserved
loop-bit-preserved c =
    let one = c.args.one.now in
    let names = types one.statements in
    let f = lost_access one c.args.other.now (at names c.args.source) (at names c.args.target) in
    let bit : ℕ = c.loop-bit.bit in
    let lt : bit < 7 = omega arith in
    adds_step one c.args.counts.now c.loop-bit.counts c.count_perm.new.counts f perm_numbers bit 0 lt
    c.loop-bit.invariant (rw (number_there bit lt) c.count_perm.ensures)
