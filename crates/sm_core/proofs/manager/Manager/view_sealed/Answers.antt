use Rattle.std.proofs.Common.{◌≡◌, sym, subst}
use Rattle.sm_history.specs.Books.{Book}
use Rattle.sm_history.specs.Histories.{turn_of}
use Rattle.sm_history.specs.Segments.{sealed}
use Rattle.sm_history.specs.declared.by.By.{By}
use Rattle.sm_core.specs.Counting.{change_count}
use Rattle.sm_core.proofs.manager.Manager.view_sealed.Goals as goal

pub after_seal-requires : goal.after_seal-requires
after_seal-requires c =
    let r = c.args.ready.now in record {
      history = subst (λ (b : Book). r.journal.history ≡ sealed b.history) (sym c.requires.last) c.requires.ready.opens;
      turns = subst (λ (b : Book). (by : By) → change_count r.turns by ≡ turn_of (sealed b.history) by)
          (sym c.requires.last)
          c.requires.ready.turns;
    }
