use Rattle.std.proofs.Common.{◌≡◌, ap, sym, subst, ◌∙◌}
use Rattle.sm_history.specs.declared.by.By.{By}
use Rattle.sm_history.specs.Histories.{turn_of}
use Rattle.sm_history.specs.Lawful.{ComesAbout}
use Rattle.sm_history.specs.Segments.{admins_of, sealed}
use Rattle.sm_core.specs.Counting.{counted_admins, change_count}
use Rattle.sm_core.specs.Managed.{Ledgered}
use Rattle.sm_core.specs.Journals.{Written}
use Rattle.sm_core.proofs.KeptSealed.{kept_sealed}
use Rattle.sm_core.proofs.ledger.Ledger.close.Goals as goal

pub invariant_of-self : goal.invariant_of-self
invariant_of-self c =
    let some = rw (← c.self.view_is) at c.requires.some in
    let opens : c.args.ready.journal.history ≡ sealed c.self.inside.journal.history =
    subst (λ (l : Ledgered). c.args.ready.journal.history ≡ sealed l.book.history) (sym c.self.view_is)
    c.requires.opens in
    let turns : (by : By) → change_count c.args.ready.turns by ≡ turn_of (sealed c.self.inside.journal.history) by =
    subst (λ (l : Ledgered). (by : By) → change_count c.args.ready.turns by ≡ turn_of (sealed l.book.history) by)
    (sym c.self.view_is) c.requires.turns in
    let admins : counted_admins c.args.ready.turns ≡ admins_of (sealed c.self.inside.journal.history) =
    subst (λ (l : Ledgered). counted_admins c.args.ready.turns ≡ admins_of (sealed l.book.history)) (sym c.self.view_is)
    c.requires.admins in
    kept_sealed c.self.inside.places c.self.inside.journal.history c.replace-closed.new.dest.history
    c.self.inside.turns c.args.ready.turns c.self.inside.state c.self.invariant some
    (ap (λ (j : Written). j.history) c.replace-closed.ensures.after ∙ opens) turns admins

pub closed-requires : goal.closed-requires
closed-requires c =
    subst ComesAbout (sym (ap (λ (j : Written). j.history) c.replace-closed.ensures.value))
    (c.self.inside.places, c.self.invariant.lawful)
