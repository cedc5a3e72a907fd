use Rattle.std.proofs.Common.{◌≡◌, ◌≤◌, length}
use Rattle.sm_ruletext.specs.Grammar.{names_at}
use Rattle.sm_ruletext.proofs.grammar.names.Given as goal

abbrev pub invariant-names : goal.invariant-names
invariant-names l = record {
  same : names_at l.line l.names l.tokens ≡ names_at l.line l.fn.names l.fn.tokens;
  few : length l.tokens ≤ length l.fn.tokens;
}

abbrev pub decreases-names : goal.decreases-names
decreases-names l = length l.tokens
