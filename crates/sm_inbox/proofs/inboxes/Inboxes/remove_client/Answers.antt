use Rattle.std.proofs.Common.{rules, ap}
use Rattle.std.specs.Prelude.{is_some, Option, not, ◌==◌}
use Rattle.std.proofs.lemmas.Fn.{filter_same}
use Rattle.sm_inbox.specs.declared.inbox.Inbox.{Inbox}
use Rattle.sm_history.proofs.ClientRows.{row_gone}
use Rattle.sm_inbox.proofs.RowLemmas.{room_others}
use Rattle.sm_inbox.proofs.Tracked.{tracks_dies}
use Rattle.sm_history.proofs.OnceRows.{once_left}
use Rattle.sm_inbox.proofs.inboxes.Inboxes.remove_client.Goals as goal

pub returns-clause-tracks : goal.returns-clause-tracks
returns-clause-tracks c d tr =
    let left = filter_same _ (λ (r : Inbox). not (r.client == c.args.client)) _ (λ x b f' k. search rules) _ _
    c.retain.ensures.filtered in
    rw left (tracks_dies d c.args.self.now.rows.items _ c.args.client
    (row_gone _ c.args.self.now.rows.items c.args.client) tr)

pub returns-clause-others : goal.returns-clause-others
returns-clause-others c k f =
    let left = filter_same _ (λ (r : Inbox). not (r.client == c.args.client)) _ (λ x b f' k. search rules) _ _
    c.retain.ensures.filtered in
    rw left (room_others c.args.self.now.rows.items _ c.args.client _
    (row_gone _ c.args.self.now.rows.items c.args.client) k f)

pub returns-clause-still : goal.returns-clause-still
returns-clause-still c k f =
    let left = filter_same _ (λ (r : Inbox). not (r.client == c.args.client)) _ (λ x b f' k. search rules) _ _
    c.retain.ensures.filtered in
    rw left (ap (λ (o : Option Inbox). is_some o) ((row_gone _ c.args.self.now.rows.items c.args.client).other k f))

pub invariant_of-self : goal.invariant_of-self
invariant_of-self c =
    let left = filter_same _ (λ (r : Inbox). not (r.client == c.args.client)) _ (λ x b f' k. search rules) _ _
    c.retain.ensures.filtered in
    record {
      once = rw left
          (once_left _ c.args.self.now.rows.items (λ k. not (k == c.args.client)) c.args.self.now.once);
    }
