use Rattle.std.proofs.Common.{◌≡◌, ◌<◌, ℕ, get_or, []}
use Rattle.sm_ruletext.proofs.set.names_spell.Given as goal

abbrev pub invariant-loop-i : goal.invariant-loop-i
invariant-loop-i l = (k : ℕ) → k < l.i → get_or l.names k [] ≡ get_or l.words k []
