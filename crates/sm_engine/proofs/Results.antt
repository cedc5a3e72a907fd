-- Facts of results.
use Rattle.std.proofs.Common.{Result, Ok, Err, OnOk, OnErr}

-- What holds anyway holds at a value.
pub on_ok : {T E P : Type 0} (r : Result T E) → P → OnOk r P
on_ok (Ok x) p = p
on_ok (Err e) p = tt

-- What holds anyway holds at an error.
pub on_err : {T E P : Type 0} (r : Result T E) → P → OnErr r P
on_err (Ok x) p = tt
on_err (Err e) p = p
