use Rattle.std.proofs.Common.{zero, true, arith}
use Rattle.sm_ruletext.proofs.Turns.{group_turn}
use Rattle.sm_ruletext.specs.Grammar.{group_at}
use Rattle.sm_ruletext.proofs.grammar.group.Goals as goal

pub items-preserved-in-Dash : goal.items-preserved-in-Dash
items-preserved-in-Dash c = record {
  same = group_turn c.args.line c.items.depth c.args.may_self c.items.fresh c.items.items c.subtract.new.self
      c.items.tokens c.kind.new.tokens c.name_word.new.tokens c.in_ok-word.field-0 c.in_ok-word-in-Dash.word
      (group_at c.args.line c.args.may_self zero true c.args.items.now c.args.tokens.now) c.in_ok-word.ensures.read
      c.in-Dash.is c.in_ok-word-in-Dash.ensures.read c.in_ok-subtract-in-Dash.ensures c.items.invariant.same;
  few = omega (arith, c.in_ok-word.ensures.fewer, c.in_ok-word-in-Dash.ensures.fewer);
}
