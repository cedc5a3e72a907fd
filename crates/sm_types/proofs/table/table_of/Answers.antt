use Rattle.sm_types.proofs.Accepted.{names_in_order}
use Rattle.sm_types.proofs.table.table_of.Goals as goal

pub returns-clause-built : goal.returns-clause-built
returns-clause-built c =
    let names = names_in_order c.args.statements.now c.in_ok-symbols.symbols c.in_ok-symbols.ensures.exact in
    record {
      accepted = c.in_ok-symbols.ensures.exact;
      types = names.0;
      attributes = names.1;
      rows =
          c.in_ok-members.ensures;
    }
