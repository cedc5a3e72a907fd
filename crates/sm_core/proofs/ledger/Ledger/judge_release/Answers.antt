use Rattle.std.proofs.Common.{refl, sym}
use Rattle.sm_history.specs.Histories.{effects_of}
use Rattle.sm_history.specs.Records.{moment_of}
use Rattle.sm_core.specs.declared.draft.Draft.{Draft}
use Rattle.sm_core.proofs.Drafting.{release_drafted}
use Rattle.sm_core.proofs.ledger.Ledger.judge_release.Goals as goal

pub returns : goal.returns
returns c =
    let h = c.args.self.now.book.history in
    let old = c.args.draft.now in
    let new : Draft = record old { effects = c.add_effect.new.effects; near = c.args.handle } in (
      rw (sym c.in-Some.ensures) refl,
      release_drafted (moment_of h) (effects_of h) c.args.client c.args.handle c.in-Some.node new c.in-Some.ensures
          c.requires.live c.requires.blank.1 (rw c.requires.blank.0 at c.in_ok-add_effect.ensures),
    )
