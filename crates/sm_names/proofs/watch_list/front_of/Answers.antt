use Rattle.std.proofs.Common.{rules}
use Rattle.std.proofs.lemmas.List.Sorted.{IsPartitionPoint-from_clause}
use Rattle.sm_names.proofs.WatchLemmas.{filter_front, is_of}
use Rattle.sm_names.proofs.watch_list.front_of.Goals as goal

pub returns-clause-same : goal.returns-clause-same
returns-clause-same c parted =
    let p = is_of c.args.name.now in
    let end = c.partition_point-end.result in
    filter_front p c.args.list.now end c.partition_point-end.ensures.bound
    (IsPartitionPoint-from_clause p c.args.list.now end c.partition_point-end.ensures.partitioned parted
    (λ a r f' h. search rules))
