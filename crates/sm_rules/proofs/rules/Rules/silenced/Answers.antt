use Rattle.std.proofs.Common.{◌∙◌, ap, sym}
use Rattle.sm_ruletext.specs.declared.statement.RuleKind.TheVariants.{Dontaudit}
use Rattle.sm_types.specs.Names.{at}
use Rattle.sm_rules.specs.Keeping.{KeptRules}
use Rattle.sm_rules.proofs.Consistent.{silenced_is, no_single}
use Rattle.sm_rules.proofs.rules.Rules.silenced.Goals as goal

pub returns-in-Some-clause-silenced : goal.returns-in-Some-clause-silenced
returns-in-Some-clause-silenced c policy names is hs ht =
    c.any_covers.ensures ∙ (rw (
      c.deref.ensures.value,
      c.from-s.ensures,
      c.from-t.ensures,
      ap (λ (r : KeptRules). r.silences) c.self.view_is,
    ) (silenced_is policy names c.args.self.now c.in-Some.bit c.args.source c.args.target c.args.class c.args.perm is hs
    ht c.in-Some.ensures.some))

pub returns-in-None-clause-silenced : goal.returns-in-None-clause-silenced
returns-in-None-clause-silenced c policy names is hs ht =
    sym (no_single Dontaudit policy (at names c.args.source) (at names c.args.target) c.args.class c.args.perm
    c.in-None.ensures.none)
