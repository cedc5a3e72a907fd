use Rattle.std.proofs.Common.{◌+◌, ◌%◌, ◌||◌, nat_eq, nat_lt, bit_or, refl, arith}
use Rattle.std.proofs.lemmas.Bool.{agree_below_at}
use Rattle.sm_history.specs.NameLists.{is_spaced_byte}
use Rattle.sm_history.proofs.name_bytes.is_spaced_byte.Goals as goal

pub returns : goal.returns
returns c = agree_below_at
    (λ b. ((nat_lt ((bit_or b 32 + 159) % 256) 26 || nat_lt ((b + 211) % 256) 13) || nat_eq b 95) || nat_eq b 32)
    is_spaced_byte 256 c.args.b refl (omega arith)
