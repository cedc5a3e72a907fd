use Rattle.std.proofs.Common.{◌∙◌, subst, sym}
use Rattle.sm_history.specs.Books.{Book}
use Rattle.sm_history.specs.Steps.{ClosesSegment}
use Rattle.sm_door.specs.Locked.{Locked}
use Rattle.sm_door.proofs.Places.{same_book, seals_done}
use Rattle.sm_door.proofs.locked_manager.LockedManager.close_segment.Goals as goal

pub show_sealed-requires-clause-shown : goal.show_sealed-requires-clause-shown
show_sealed-requires-clause-shown g c = c.self.invariant ∙ sym (same_book _ _ c.ready_seal.ensures.same)

pub returns-in-Ok-show_sealed-clause-seals : goal.returns-in-Ok-show_sealed-clause-seals
returns-in-Ok-show_sealed-clause-seals g c =
    let r = c.in-Ok.ensures.ready in
    subst (λ (l : Locked). ClosesSegment l.book c.commit_seal.result c.commit_seal.new.self.book) c.self.view_is
    (subst (λ (b : Book). ClosesSegment b c.commit_seal.result c.commit_seal.new.self.book)
    (same_book _ _ c.ready_seal.ensures.same)
    (seals_done _ _ _ r.some c.commit_seal.ensures.segment c.commit_seal.ensures.places c.commit_seal.ensures.history))
