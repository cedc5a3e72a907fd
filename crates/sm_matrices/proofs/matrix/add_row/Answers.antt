use Rattle.std.proofs.Common.{sym, ◌∙◌, arith}
use Rattle.std.proofs.lemmas.Result.{IfOk-weaker}
use Rattle.sm_bits.specs.Bits.{row}
use Rattle.sm_bits.proofs.EmptyRows.{row_past}
use Rattle.sm_matrices.specs.Uniting.{Doubled}
use Rattle.sm_matrices.proofs.Doubling.{doubled_same}
use Rattle.sm_matrices.proofs.matrix.add_row.Goals as goal

pub returns-clause-doubled : goal.returns-clause-doubled
returns-clause-doubled c =
    let nothing = c.in_ok-nothing.nothing in
    IfOk-weaker c.add-2.result (λ done. Doubled c.args.unions.now c.add-2.new.self nothing)
    (λ done. Doubled c.args.unions.now c.add-2.new.self (row c.args.rows.now c.args.s))
    (λ done doubled. doubled_same c.args.unions.now c.add-2.new.self nothing (row c.args.rows.now c.args.s)
    (λ t. c.in_ok-nothing.ensures.none t ∙ sym (row_past c.args.rows.now c.args.s t (omega arith))) doubled)
    c.add-2.ensures.doubled
