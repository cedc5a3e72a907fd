use Rattle.std.proofs.Common.{rules, sym, ap, ◌∙◌, subst}
use Rattle.std.specs.Prelude.{List}
use Rattle.std.specs.List.Sorted.{IsPartitionedBy}
use Rattle.std.proofs.lemmas.List.Sorted.{IsPartitionPoint-from_clause}
use Rattle.sm_history.specs.declared.effect.Watch.{Watch}
use Rattle.sm_names.specs.Watching.{watchers_in}
use Rattle.sm_names.proofs.WatchLemmas.{comes_before, is_of, parted_before, parted_of, watchers_rest, rest_is}
use Rattle.sm_names.proofs.watch_list.from_name.Goals as goal

pub returns-clause-same : goal.returns-clause-same
returns-clause-same c ordered =
    let p = comes_before c.args.name.now in
    let start = c.partition_point-start.result in
    let parts = IsPartitionPoint-from_clause p c.args.list.now start c.partition_point-start.ensures.partitioned
    (parted_before c.args.list.now c.args.name.now ordered) (λ a r f' h. search rules) in
    ap (λ (ws : List Watch). watchers_in ws c.args.name.now) (rest_is c.args.list.now start)
    ∙ watchers_rest c.args.list.now c.args.name.now start c.partition_point-start.ensures.bound parts.0

pub returns-clause-first : goal.returns-clause-first
returns-clause-first c ordered =
    let p = comes_before c.args.name.now in
    let start = c.partition_point-start.result in
    let parts = IsPartitionPoint-from_clause p c.args.list.now start c.partition_point-start.ensures.partitioned
    (parted_before c.args.list.now c.args.name.now ordered) (λ a r f' h. search rules) in
    subst (λ (ws : List Watch). IsPartitionedBy (is_of c.args.name.now) ws) (sym (rest_is c.args.list.now start))
    (parted_of c.args.list.now c.args.name.now start ordered parts.1)
