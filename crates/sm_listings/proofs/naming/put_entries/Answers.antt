use Rattle.std.proofs.Common.{◌∙◌, ◌<◌, ◌≤◌, ℕ, [], length}
use Rattle.sm_contexts.specs.Reading.{Entry}
use Rattle.sm_engine.proofs.Results.{on_err}
use Rattle.sm_questions.proofs.Buffering.{passes_list, passes_step, stops_lost, stops_step}
use Rattle.sm_listings.specs.Named.{allowed_line}
use Rattle.sm_listings.proofs.Entries.{all_lines, line_there}
use Rattle.sm_listings.proofs.naming.put_entries.Goals as goal

-- This is what the list has past its end.
abbrev no_entry : Entry
no_entry = record { line = 0; key = []; context = [] }

pub returns-in_err-push_entry-clause-stopped : goal.returns-in_err-push_entry-clause-stopped
returns-in_err-push_entry-clause-stopped g c =
    let f = allowed_line c.args.policy.now c.args.source.now c.args.perm in
    rw (← all_lines c.args.policy.now c.args.source.now c.args.perm)
    (on_err c.from_residual.result
    (stops_lost f c.args.policy.now.entries c.loop-i.i c.loop-i.invariant.so_far))

pub returns-in_err-write_full-clause-stopped : goal.returns-in_err-write_full-clause-stopped
returns-in_err-write_full-clause-stopped g c =
    let policy = c.args.policy.now in
    let f = allowed_line policy c.args.source.now c.args.perm in
    let i : ℕ = c.loop-i.i in
    let lt : i < length policy.entries = rw (c.count-i-end.ensures, c.contexts.ensures) at c.loop-i-test.true in
    rw (← all_lines policy c.args.source.now c.args.perm)
    (on_err c.from_residual-in_err-write_full.result (stops_step f policy.entries i no_entry lt
    c.loop-i.invariant.so_far
    (c.in_ok-push_entry.ensures ∙ line_there policy c.args.source.now c.args.perm _ i no_entry lt)
    c.in_err-write_full.ensures.stopped))

pub loop-i-preserved : goal.loop-i-preserved
loop-i-preserved g c =
    let policy = c.args.policy.now in
    let f = allowed_line policy c.args.source.now c.args.perm in
    let i : ℕ = c.loop-i.i in
    let lt : i < length policy.entries = rw (c.count-i-end.ensures, c.contexts.ensures) at c.loop-i-test.true in
    record {
      so_far = passes_step f policy.entries i no_entry lt c.loop-i.invariant.so_far
          (c.in_ok-push_entry.ensures ∙ line_there policy c.args.source.now c.args.perm _ i no_entry lt)
          c.in_ok-write_full.ensures.ok;
      count = c.in_ok-write_full.ensures.count ∙ c.loop-i.invariant.count;
    }

pub returns-clause-ok : goal.returns-clause-ok
returns-clause-ok g c =
    let policy = c.args.policy.now in
    let f = allowed_line policy c.args.source.now c.args.perm in
    let past : length policy.entries ≤ c.loop-i.i =
    rw (c.count-i-end.ensures, c.contexts.ensures) at c.loop-i-test.false in
    rw (← all_lines policy c.args.source.now c.args.perm)
    (passes_list f policy.entries c.loop-i.i past c.loop-i.invariant.so_far)
