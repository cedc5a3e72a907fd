use Rattle.std.proofs.Common.{◌≡◌, ap, ◌∙◌, arith, length}
use Rattle.sm_core.specs.Tables.{row_under}
use Rattle.sm_core.proofs.Renumbering.{mapped_to, none_mapped, one_mapped, all_mapped}
use Rattle.sm_core.proofs.client.renumber_each.Goals as goal

pub loop-row-init : goal.loop-row-init
loop-row-init c = none_mapped (row_under c.args.policy.now c.args.manager.now.who) c.args.rows.now

pub loop-row-preserved : goal.loop-row-preserved
loop-row-preserved c =
    one_mapped (row_under c.args.policy.now c.args.manager.now.who) c.args.rows.now c.loop-row.rows
    c.loop-row.row-index _ c.renumber.new.self c.loop-row.invariant c.renumber.ensures

pub returns : goal.returns
returns c =
    let all : c.loop-row.row-index ≡ length c.args.rows.now = omega arith in
    c.loop-row.invariant ∙ ap (mapped_to (row_under c.args.policy.now c.args.manager.now.who) c.args.rows.now) all
    ∙ all_mapped (row_under c.args.policy.now c.args.manager.now.who) c.args.rows.now
