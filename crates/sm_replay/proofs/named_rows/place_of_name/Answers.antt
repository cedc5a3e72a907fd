use Rattle.std.proofs.Common.{rules}
use Rattle.std.specs.Ordering.{nat_cmp}
use Rattle.std.specs.Cmp.Lexicographic.{slice_cmp}
use Rattle.std.proofs.lemmas.Fn.{always_returns_same}
use Rattle.sm_history.specs.declared.named_row.NamedRow.{NamedRow}
use Rattle.sm_history.proofs.NamedRows.{searched}
use Rattle.sm_replay.proofs.named_rows.place_of_name.Goals as goal

pub returns-clause-place : goal.returns-clause-place
returns-clause-place c rises =
    searched c.args.rows.now c.args.name.now c.binary_search_by.result rises c.binary_search_by.ensures.bound
    (c.binary_search_by.ensures.position (λ (r : NamedRow). slice_cmp nat_cmp r.name c.args.name.now)
    (always_returns_same _ _ _ (λ a r f' h. search rules)))
