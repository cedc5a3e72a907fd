use Rattle.std.proofs.Common.{[]}
use Rattle.sm_history.specs.Histories.{effects_of}
use Rattle.sm_history.specs.Records.{moment_of}
use Rattle.sm_core.specs.Judging.{adder_checks, given_object_checks}
use Rattle.sm_core.proofs.Stopping.{pass_both}
use Rattle.sm_core.proofs.ledger.Ledger.judge_service.Goals as goal

pub returns : goal.returns
returns c =
    let d = effects_of c.args.self.now.book.history in (
      pass_both (moment_of c.args.self.now.book.history) _ _ _ (adder_checks d c.args.row.now.id c.args.name.now)
          (given_object_checks d c.args.name.now c.args.node) c.in_ok-judge_adder.ensures (c.in_ok-node.ensures _).0,
      (c.in_ok-node.ensures []).1,
    )
