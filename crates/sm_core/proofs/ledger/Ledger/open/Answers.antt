use Rattle.std.proofs.Common.{rules, ◌∙◌, arith}
use Rattle.sm_history.specs.declared.by.By.TheVariants.{Manager}
use Rattle.sm_core.proofs.OpeningKept.{kept_opened}
use Rattle.sm_core.proofs.ledger.Ledger.open.Goals as goal

pub count-requires-clause-few : goal.count-requires-clause-few
count-requires-clause-few c =
    let same = c.reserve.ensures.same Manager in
    let none = c.none-turns.ensures.counts Manager in
    omega (arith, same, none)

pub invariant_of-result : goal.invariant_of-result
invariant_of-result c =
    kept_opened c.entries.result c.in_ok-open.field-0.history c.reserve.new.self c.count.new.self _ c.args.who
    c.args.policy
    (search rules) (search rules) (search rules) (search rules) (search rules)
    (λ by. c.reserve.ensures.same by ∙ c.none-turns.ensures.counts by) c.count.ensures.counts
    (c.count.ensures.admins ∙ c.reserve.ensures.admins ∙ c.none-turns.ensures.admins)
    (search rules) (search rules) (search rules) (search rules) (search rules)
    (search rules) (search rules) (search rules)
