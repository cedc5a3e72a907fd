use Rattle.std.proofs.Common.{◌+◌, ◌-◌, ◌<◌, ◌≤◌, ◌∙◌, drop, length, length-drop, sym, ap, arith}
use Rattle.std.proofs.lemmas.List.{take_all}
use Rattle.sm_questions.proofs.LineStarts.{no_lines, starts_more}
use Rattle.sm_questions.proofs.line_starts.line_starts.Goals as goal

pub loop-at-preserved : goal.loop-at-preserved
loop-at-preserved c =
    let some : 0 < length (drop c.loop-at.at c.args.text.now) =
    omega (arith, length-drop c.loop-at.at c.args.text.now, c.loop-at-test.true) in
    let text = drop c.loop-at.at c.args.text.now in
    let whole : length text ≤ length c.args.text.now - c.loop-at.at =
    omega (arith, length-drop c.loop-at.at c.args.text.now) in
    let len = rw (take_all (length c.args.text.now - c.loop-at.at) text whole) at c.line_len.ensures.value in
    starts_more c.args.text.now c.loop-at.starts.items c.push.new.self.items c.loop-at.at _ c.in_ok-push.ensures.items
    c.loop-at-test.true (ap (λ n. c.loop-at.at + (n + 1)) len) some c.loop-at.invariant

pub returns : goal.returns
returns c = record {
  within = c.loop-at.invariant.within;
  from = c.loop-at.invariant.from;
  all = sym c.loop-at.invariant.rest ∙ no_lines c.args.text.now c.loop-at.at c.loop-at-test.false;
}
