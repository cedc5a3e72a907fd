use Rattle.std.proofs.Common.{◌+◌, ◌<◌, ◌++◌, List, length, refl, ap, arith, ◌∙◌}
use Rattle.sm_history.specs.declared.entry.Entry.{Entry}
use Rattle.sm_history.specs.declared.limits.TheConstants.{GREATEST}
use Rattle.sm_history.specs.Lawful.{ComesAbout}
use Rattle.sm_history.specs.Segments.{joined, segment}
use Rattle.sm_history.proofs.SegmentLengths.{length_fits}
use Rattle.sm_history.proofs.segment.Segment.history_length.Goals as goal

pub count_chunks-requires : goal.count_chunks-requires
count_chunks-requires c =
    let s = c.self.inside in
    let came : ComesAbout (segment s.number s.opening (joined s.full.items ++ s.last.items)) = c.self.invariant in
    let fits = length_fits came.0 s.number s.opening s.full.items s.last.items s.opening.length
    (length (joined s.full.items)) (length s.last.items) came.1 refl refl refl in
    let same = ap (λ (cs : List (List Entry)). length (joined cs)) c.deref.ensures.value in
    omega (arith, fits, same)

pub overflow_add-result : goal.overflow_add-result
overflow_add-result c =
    let s = c.self.inside in
    let came : ComesAbout (segment s.number s.opening (joined s.full.items ++ s.last.items)) = c.self.invariant in
    let fits : c.history_length.result + c.count_chunks.result + length s.last.items < GREATEST =
    length_fits came.0 s.number s.opening s.full.items s.last.items c.history_length.result c.count_chunks.result
    (length s.last.items) came.1 c.history_length.ensures
    (c.count_chunks.ensures ∙ ap (λ (cs : List (List Entry)). length (joined cs)) c.deref.ensures.value) refl in
    omega (arith, fits)

pub overflow_add-result-2 : goal.overflow_add-result-2
overflow_add-result-2 c =
    let s = c.self.inside in
    let came : ComesAbout (segment s.number s.opening (joined s.full.items ++ s.last.items)) = c.self.invariant in
    let fits : c.history_length.result + c.count_chunks.result + c.len.result < GREATEST =
    length_fits came.0 s.number s.opening s.full.items s.last.items c.history_length.result c.count_chunks.result
    c.len.result came.1 c.history_length.ensures
    (c.count_chunks.ensures ∙ ap (λ (cs : List (List Entry)). length (joined cs)) c.deref.ensures.value)
    (c.len.ensures ∙ s.last.ok.0) in
    omega (arith, fits)
