use Rattle.std.proofs.Common.{◌≡◌, ℕ, ◌+◌, [], List, ap, ◌∙◌, sym, subst, arith}
use Rattle.sm_history.specs.declared.by.By.{By}
use Rattle.sm_history.specs.Openings.{Opening}
use Rattle.sm_history.specs.Segments.{rows_of}
use Rattle.sm_core.specs.Managed.{Ledgered}
use Rattle.sm_core.specs.SealReady.{IsReadySeal}
use Rattle.sm_core.specs.declared.client.LiveClient.{LiveClient}
use Rattle.sm_core.specs.Counting.{change_count, made_sealed}
use Rattle.sm_core.specs.Journals.{journal_segment}
use Rattle.sm_core.proofs.KeptSealed.{small_number}
use Rattle.sm_core.proofs.SealedTurns.{admins_sealed, ids, turns_sealed}
use Rattle.sm_core.proofs.ledger.Ledger.next_segment.Goals as goal

pub overflow_add-number : goal.overflow_add-number
overflow_add-number c =
    let some = rw (← c.self.view_is) at c.requires in
    let n = small_number _ _ _ _ c.self.invariant some in
    let is = c.number.ensures in
    omega (arith, n, is)

pub returns : goal.returns
returns c =
    let k = c.self.invariant in
    let h = c.self.inside.journal.history in
    let some = rw (← c.self.view_is) at c.requires in
    let opening : c.in_ok-opening.opening ≡ rows_of h =
    subst (λ (l : Ledgered). c.in_ok-opening.opening ≡ rows_of l.book.history) (sym c.self.view_is)
    c.in_ok-opening.ensures in
    let counts : (by : By) → change_count c.in_ok-turns.turns by
    ≡ made_sealed (ids c.self.inside.state.principals.clients.items) c.self.inside.state.next c.self.inside.turns by =
    λ by. c.in_ok-turns.ensures.turns by
    ∙ ap (λ (rs : List LiveClient). made_sealed (ids rs) c.self.inside.state.next c.self.inside.turns by)
    c.deref.ensures.value in
    subst (λ (l : Ledgered). IsReadySeal l.book (record { journal = c.in_ok-journal.journal; turns = c.in_ok-turns.turns }))
    c.self.view_is (record {
      some = some;
      opens = c.in_ok-journal.ensures.history
          ∙ ap (λ (n : ℕ). journal_segment (n + 1) c.in_ok-opening.opening []) c.number.ensures
          ∙ ap (λ (o : Opening). journal_segment (h.number + 1) o []) opening;
      turns = turns_sealed h c.self.inside.turns c.in_ok-turns.turns c.self.inside.state.principals.clients.items
          c.self.inside.state.next k.stands.sound k.turns_are k.stands.principals.clients k.stands.next counts;
      admins = c.in_ok-turns.ensures.admins ∙ k.admins_are ∙ sym (admins_sealed h);
    })
