use Rattle.std.proofs.Common.{◌≡◌, ◌<◌, length, refl, sym}
use Rattle.std.proofs.lemmas.Option.{IfSome_then}
use Rattle.sm_rules.specs.declared.kept.Kept.{Kept}
use Rattle.sm_neverallow.proofs.Apart.{none_map}
use Rattle.sm_violations.specs.Finding.{AreApartFrom, IsFirstFrom}
use Rattle.sm_violations.proofs.Steps.{clear_from, is_there}
use Rattle.sm_violations.proofs.violations.next_of_rule.Goals as goal

pub returns-then-not-may_be_broken-clause-none : goal.returns-then-not-may_be_broken-clause-none
returns-then-not-may_be_broken-clause-none c rule found =
    let rules = c.args.rules.now in
    let it = c.index-nevers-never.result in
    let same : it ≡ rule = is_there c.neverallows-nevers.result.now rules.neverallows c.args.never it rule
    c.neverallows-nevers.ensures.kept c.requires.never c.index-nevers-never.is found in
    let clear = rw (same, c.type_count-count.ensures) at (c.may_be_broken.ensures c.if-not-may_be_broken.true) in
    clear_from rules.allows c.args.matrices.now rules.count c.args.start rule c.requires.compiled clear

pub returns-clause-none : goal.returns-clause-none
returns-clause-none c =
    let rules = c.args.rules.now in
    let it = c.index-nevers-never.result in
    none_map c.first_from.result (AreApartFrom rules.allows it rules.count c.args.start) _
    (λ apart rule found. rw (← is_there c.neverallows-nevers.result.now rules.neverallows c.args.never it rule
    c.neverallows-nevers.ensures.kept c.requires.never c.index-nevers-never.is found) apart)
    (rw (c.allows.ensures.kept, c.type_count-count.ensures) at c.first_from.ensures.none)

pub returns-clause-some : goal.returns-clause-some
returns-clause-some c =
    let rules = c.args.rules.now in
    let it = c.index-nevers-never.result in
    IfSome_then c.first_from.result
    (rw (c.allows.ensures.kept, c.type_count-count.ensures) at c.first_from.ensures.some)
    (λ f first rule found. rw (← is_there c.neverallows-nevers.result.now rules.neverallows c.args.never it rule
    c.neverallows-nevers.ensures.kept c.requires.never c.index-nevers-never.is found) first)
