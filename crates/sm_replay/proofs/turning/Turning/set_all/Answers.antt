use Rattle.std.proofs.Common.{◌≡◌, ◌+◌, ◌-◌, ◌∷◌, length, drop, get_or, arith, ◌∙◌}
use Rattle.sm_history.specs.declared.by.By.TheVariants.{Manager}
use Rattle.sm_history.specs.declared.turn.TurnRow.{TurnRow}
use Rattle.sm_replay.specs.Turning.{is_known, made}
use Rattle.sm_replay.proofs.TurnsCounted.{begun_made, begun_known, from_behind}
use Rattle.sm_replay.proofs.turning.Turning.set_all.Goals as goal

pub loop-k-preserved : goal.loop-k-preserved
loop-k-preserved c =
    let rows = c.args.rows.now in
    let k = c.loop-k.k in
    let none : TurnRow = record { by = Manager; turns = 0 } in
    let row = get_or rows (length rows - 1 - k) none in
    let rest = drop (length rows - k) rows in
    let split : drop (length rows - (k + 1)) rows ≡ row ∷ rest =
    from_behind rows k none (omega (arith, c.loop-k-test.true)) in (
      λ z b. rw split (begun_made row rest b (made c.set.new.self b) (made c.loop-k.self b) (c.in_ok-set.ensures.made b)
          (c.loop-k.invariant.0 z b)),
      λ z a. rw split (begun_known row rest a (is_known c.set.new.self a) (is_known c.loop-k.self a)
          (c.in_ok-set.ensures.known a)
          (c.loop-k.invariant.1 z a)),
      c.in_ok-set.ensures.order ∙ c.loop-k.invariant.2,
    )
