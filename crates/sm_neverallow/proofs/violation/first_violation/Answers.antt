use Rattle.sm_neverallow.specs.Violating.{IsFirstAmong, AllApart}
use Rattle.sm_neverallow.proofs.Consistent.{are_said, consistent}
use Rattle.sm_neverallow.proofs.Firsts.{first_is_first, violation_is_both}
use Rattle.sm_neverallow.proofs.violation.first_violation.Goals as goal

pub returns-in-Some : goal.returns-in-Some
returns-in-Some c =
    let rules = c.args.rules.now in
    let a = c.allows-allows.ensures in
    let n = c.neverallows-neverallows.ensures in
    let said = are_said rules _ _ a.kept n.kept a.said n.said a.written n.forbidden in
    let first : IsFirstAmong rules.allows rules.neverallows rules.count c.in-Some.violation =
    rw (c.in-Some.is, a.kept, n.kept, c.type_count-count.ensures) at c.in_ok-violation.ensures.some in
    record {
      none = tt;
      some = λ policy names is.
          first_is_first policy names rules c.in-Some.violation is (said policy names is) first;
      both = λ policy names is.
          violation_is_both policy names rules c.in-Some.violation is (said policy names is) first;
    }

pub returns-in-None-clause-none : goal.returns-in-None-clause-none
returns-in-None-clause-none c policy names is =
    let rules = c.args.rules.now in
    let a = c.allows-allows.ensures in
    let n = c.neverallows-neverallows.ensures in
    let said = are_said rules _ _ a.kept n.kept a.said n.said a.written n.forbidden policy names is in
    let apart : AllApart rules.allows rules.neverallows rules.count =
    rw (c.in-None.is, a.kept, n.kept, c.type_count-count.ensures) at c.in_ok-violation.ensures.none in
    consistent policy names rules is said apart
