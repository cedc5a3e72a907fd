-- From one seal, and the books that are seen before and after it, to what a call promises.
use Rattle.std.proofs.Common.{inl, inr, ⊎_elim, sym, ap, subst, ◌∙◌, arith}
use Rattle.sm_history.specs.declared.refusal.Refusal.{Refusal}
use Rattle.sm_history.specs.Books.{Book}
use Rattle.sm_history.specs.Histories.{History}
use Rattle.sm_history.specs.BookOrder.{Begins, IsLawfulBook}
use Rattle.sm_history.specs.Promises.{Closed, NotClosed}
use Rattle.sm_history.specs.Steps.{ClosesSegment, StaysOpen}
use Rattle.sm_history.specs.Tokens.{Knows, Sees}
use Rattle.sm_history.proofs.BookOrder.{book_through}

pub closes : (b after : Book) (old between new : Knows) (segment : History) → Sees old b between
    → ClosesSegment b segment after → Sees between after new → Closed old new segment
closes b after old between new segment first s then = record {
  grows = record {
    by = then.grows.by ∙ first.grows.by;
    lawful = then.grows.lawful;
    begins = book_through _ _ _ then.grows.begins first.grows.begins;
    reads =
        let one = first.grows.reads in
        let more = then.grows.reads in
        omega (arith, one, more);
  };
  entered =
      let one = first.entered in
      let more = then.entered in
      omega (arith, one, more);
  before = b;
  lawful = subst IsLawfulBook first.is first.grows.lawful;
  begins = subst (λ (x : Book). Begins x old.seen) first.is first.grows.begins;
  segment_is = s.segment_is;
  some = λ none. s.some (ap (λ (h : History). h.entries) (sym s.segment_is) ∙ none);
  opens = then.is ∙ s.opens;
}

pub stays_open : (b after : Book) (old new : Knows) (refusal : Refusal) → Sees old b new → StaysOpen b refusal after
    → NotClosed old new refusal
stays_open b after old new refusal seen s = record {
  grows = seen.grows;
  entered = seen.entered;
  why = ⊎_elim inl (λ none. inr (none.0, ap (λ (x : Book). x.history.entries) seen.is ∙ none.1)) s.1;
}
