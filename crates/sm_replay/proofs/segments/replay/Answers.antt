use Rattle.std.proofs.Common.{◌≡◌, ◌++◌, refl, sym, ◌∙◌, ap, subst}
use Rattle.sm_history.specs.Histories.{History}
use Rattle.sm_history.specs.Lawful.{IsLawful}
use Rattle.sm_history.specs.Segments.{joined, rows_of, segment}
use Rattle.sm_replay.proofs.ReplayRuns.{are_parts, run, rows_come, are_left}
use Rattle.sm_replay.proofs.segments.replay.Goals as goal

pub left_by-requires : goal.left_by-requires
left_by-requires c =
    let h = c.args.segment.now in
    let full = c.entries.result.0.now in
    let last = c.entries.result.1.now in
    let came = c.entries.ensures.lawful in
    let parts = are_parts h full last c.entries.ensures.parts in
    let lawful = subst (λ (v : History). IsLawful came.0 v) parts came.1 in
    are_left came.0 (segment h.number h.opening (joined full ++ last)) _ lawful
    (run came.0 h.number h.opening full _ last _ _ _ _ lawful (rw c.opening.ensures at c.in_ok-replay.ensures)
    refl refl c.in_ok-enter_chunks.ensures c.in_ok-enter_all.ensures)

pub returns : goal.returns
returns c =
    let h = c.args.segment.now in
    let full = c.entries.result.0.now in
    let last = c.entries.result.1.now in
    let came = c.entries.ensures.lawful in
    let parts = are_parts h full last c.entries.ensures.parts in
    let lawful = subst (λ (v : History). IsLawful came.0 v) parts came.1 in
    c.in_ok-rows.ensures
    ∙ rows_come came.0 (segment h.number h.opening (joined full ++ last)) _ lawful
    (run came.0 h.number h.opening full _ last _ _ _ _ lawful (rw c.opening.ensures at c.in_ok-replay.ensures)
    refl refl c.in_ok-enter_chunks.ensures c.in_ok-enter_all.ensures)
    ∙ ap (λ (g : History). rows_of g) (sym parts)
