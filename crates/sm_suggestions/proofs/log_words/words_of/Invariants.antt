use Rattle.std.proofs.Common.{◌≡◌, ◌++◌, length}
use Rattle.sm_suggestions.specs.LogWords.{words}
use Rattle.sm_suggestions.proofs.log_words.words_of.Given as goal

abbrev pub invariant-parts : goal.invariant-parts
invariant-parts l = l.words.items ++ words l.rest ≡ words l.line

abbrev pub decreases-parts : goal.decreases-parts
decreases-parts l = length l.rest
