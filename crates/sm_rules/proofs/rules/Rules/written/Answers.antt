use Rattle.std.proofs.Common.{◌∙◌, ap}
use Rattle.sm_types.specs.Names.{at}
use Rattle.sm_rules.specs.Keeping.{KeptRules}
use Rattle.sm_rules.proofs.Lines.{written_is, unwritten}
use Rattle.sm_rules.proofs.rules.Rules.written.Goals as goal

pub returns-in_err-bit-clause-line : goal.returns-in_err-bit-clause-line
returns-in_err-bit-clause-line c policy names is hs ht =
    c.from_residual.ensures ∙ unwritten policy (at names c.args.source) (at names c.args.target) c.args.class
    c.args.perm c.in_err-bit.ensures.none

pub returns-clause-line : goal.returns-clause-line
returns-clause-line c policy names is hs ht =
    c.first_line.ensures ∙ (rw (
      c.deref.ensures.value,
      c.from-s.ensures,
      c.from-t.ensures,
      ap
          (λ (r : KeptRules). r.allows) c.self.view_is,
    )
    (written_is policy names c.args.self.now c.in_ok-bit.bit c.args.source c.args.target c.args.class c.args.perm is hs
    ht c.in_ok-bit.ensures.some))
