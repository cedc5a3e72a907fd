use Rattle.std.proofs.Common.{◌+◌, drop, get_or, arith}
use Rattle.sm_values.specs.declared.number.ObjRef.TheVariants.{Own}
use Rattle.sm_replay.proofs.EnteringLoops.{HandsOne, refs_step}
use Rattle.sm_replay.proofs.entering.hand_all.Goals as goal
use Rattle.std.proofs.lemmas.List.{drop_more}

pub loop-i-preserved : goal.loop-i-preserved
loop-i-preserved c d s tr from to is fits =
    let i = c.loop-i.i in
    let refs = c.args.refs.now in
    let gs = c.args.given.now in
    let obj = get_or refs i (Own 0) in
    let one : HandsOne c.args.from c.args.to obj c.given_at.result c.loop-i.tables c.hand_one.new.tables =
    c.in_ok-hand_one.ensures in
    refs_step d c.args.from c.args.to refs obj (drop (i + 1) refs) gs i c.loop-i.tables c.hand_one.new.tables
    (rw (drop_more refs i (Own 0) (omega (arith, c.loop-i-test.true))) at (c.loop-i.invariant d s tr from to is fits))
    fits (rw c.given_at.ensures at one)
