use Rattle.std.proofs.Common.{◌≡◌, ◌++◌, drop}
use Rattle.sm_ruletext.proofs.words.Words.names.Given as goal

abbrev pub invariant-loop-word : goal.invariant-loop-word
invariant-loop-word l = l.names ++ drop l.word-index l.words ≡ l.words
