use Rattle.std.proofs.Common.{ap, sym, refl, ◌∙◌, List, length}
use Rattle.std.specs.Prelude.{reverse}
use Rattle.sm_history.specs.declared.entry.Entry.{Entry}
use Rattle.sm_core.specs.Journals.{journal_segment}
use Rattle.sm_core.proofs.Chunks.{moved}
use Rattle.sm_core.proofs.journal.Journal.reserve.Goals as goal

pub returns-clause-same : goal.returns-clause-same
returns-clause-same c =
    rw (← c.self.view_is) (ap (λ (l : List Entry). journal_segment c.self.inside.number c.self.inside.opening
    (reverse l))
    (moved c.self.inside.full.items c.reserve.new.self.items c.push_reserved.new.self.items c.self.inside.last.items
    c.new.result c.replace-entries.new.dest.items
    c.reserve.ensures.items c.push_reserved.ensures.items (c.new.ensures ∙ rw c.replace-entries.ensures.value refl)
    (rw c.replace-entries.ensures.after c.in_ok-fresh.ensures.items)))

pub invariant_of-self-2 : goal.invariant_of-self-2
invariant_of-self-2 c =
    c.self.invariant ∙ ap (length {A = Entry})
    (sym (moved c.self.inside.full.items c.reserve.new.self.items c.push_reserved.new.self.items
    c.self.inside.last.items c.new.result c.replace-entries.new.dest.items
    c.reserve.ensures.items c.push_reserved.ensures.items (c.new.ensures ∙ rw c.replace-entries.ensures.value refl)
    (rw c.replace-entries.ensures.after c.in_ok-fresh.ensures.items)))
