use Rattle.std.proofs.Common.{rules}
use Rattle.std.proofs.lemmas.List.Sorted.{IsPartitionPoint-from_clause}
use Rattle.sm_names.proofs.WatchLemmas.{comes_up_to, parted_up_to, not_behind}
use Rattle.sm_names.proofs.watch_list.place_behind.Goals as goal

pub returns-clause-parts : goal.returns-clause-parts
returns-clause-parts c ordered =
    IsPartitionPoint-from_clause
    (comes_up_to c.args.name.now) c.args.list.now c.partition_point.result c.partition_point.ensures.partitioned
    (parted_up_to c.args.list.now c.args.name.now ordered) (λ a r f' h. search (rules, not_behind))
