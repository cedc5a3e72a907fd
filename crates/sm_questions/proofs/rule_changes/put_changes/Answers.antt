use Rattle.sm_questions.proofs.Changes.{all_changes}
use Rattle.sm_questions.proofs.rule_changes.put_changes.Goals as goal

pub returns-clause-ok : goal.returns-clause-ok
returns-clause-ok g c =
    let lines = all_changes c.args.sign c.args.file.now.path.now c.args.file.now.text.now c.args.one.now
    c.args.other.now c.in_ok-counts.counts.items c.in_ok-counts.ensures.counts in
    rw lines at (rw (c.in_ok-quotes.ensures.of_path, c.in_ok-quotes.ensures.of_text, c.deref.ensures.value)
    at c.put_counts.ensures.ok)

pub returns-clause-any : goal.returns-clause-any
returns-clause-any g c =
    let lines = all_changes c.args.sign c.args.file.now.path.now c.args.file.now.text.now c.args.one.now
    c.args.other.now c.in_ok-counts.counts.items c.in_ok-counts.ensures.counts in
    rw lines at (rw (c.in_ok-quotes.ensures.of_path, c.in_ok-quotes.ensures.of_text, c.deref.ensures.value)
    at c.put_counts.ensures.any)

pub returns-clause-stopped : goal.returns-clause-stopped
returns-clause-stopped g c =
    let lines = all_changes c.args.sign c.args.file.now.path.now c.args.file.now.text.now c.args.one.now
    c.args.other.now c.in_ok-counts.counts.items c.in_ok-counts.ensures.counts in
    rw lines at (rw (c.in_ok-quotes.ensures.of_path, c.in_ok-quotes.ensures.of_text, c.deref.ensures.value)
    at c.put_counts.ensures.stopped)
