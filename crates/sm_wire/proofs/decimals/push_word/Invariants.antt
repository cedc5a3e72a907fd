use Rattle.std.proofs.Common.{◌≡◌, ◌++◌, ◌+◌, ◌≤◌, take, length, vec_len, vec_capacity}
use Rattle.sm_wire.proofs.decimals.push_word.Given as goal

abbrev pub invariant-loop-i : goal.invariant-loop-i
invariant-loop-i l = (l.out.items ≡ l.fn.out.items ++ take l.i l.fn.word)
    × (vec_len l.out + length l.fn.word ≤ vec_capacity l.out + l.i)
