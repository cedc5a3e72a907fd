use Rattle.std.proofs.Common.{◌≡◌, ◌-◌, ◌+◌, vec_len}
use Rattle.sm_rules.proofs.memo.Memo.make_places.Given as goal

abbrev pub invariant-loop-self : goal.invariant-loop-self
invariant-loop-self l = record {
  sets : l.self-inside.sets ≡ l.initial.self-inside.sets;
  grants : l.self-inside.grants ≡ l.initial.self-inside.grants;
}

abbrev pub decreases-loop-self : goal.decreases-loop-self
decreases-loop-self l = l.number + 1 - vec_len l.self-inside.places
