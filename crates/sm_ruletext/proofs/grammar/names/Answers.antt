use Rattle.std.proofs.Common.{arith}
use Rattle.sm_ruletext.proofs.Turns.{names_turn}
use Rattle.sm_ruletext.specs.Grammar.{names_at}
use Rattle.sm_ruletext.proofs.grammar.names.Goals as goal

pub names-preserved : goal.names-preserved
names-preserved c = record {
  same = names_turn c.args.line c.names.names c.push.new.self c.names.tokens c.kind.new.tokens c.name.new.tokens
      c.in_ok-kind.field-0 c.in_ok-name-in-Comma.name
      (names_at c.args.line c.args.names c.args.tokens.now) c.in_ok-kind.ensures.read c.in-Comma.is
      c.in_ok-name-in-Comma.ensures.read c.in_ok-push-in-Comma.ensures.ok c.names.invariant.same;
  few = omega (arith, c.in_ok-kind.ensures.fewer, c.in_ok-name-in-Comma.ensures.fewer);
}
