-- What effects make of inboxes.
use Rattle.std.proofs.Common.{◌≡◌, ℕ, true, List, [], ◌∷◌, ◌++◌, refl, ap, sym, ◌∙◌, length, drop, get_or, set}
use Rattle.std.proofs.Common.{Option, Some, None, arith}
use Rattle.std.specs.Prelude.{nat_lt, MatchOption}
use Rattle.std.proofs.lemmas.Bool.Decides.{nat_tests}
use Rattle.sm_history.specs.declared.delivery.Delivery.{Delivery}
use Rattle.sm_history.specs.declared.effect.Effect.TheVariants.{Delivers, Takes, Dies}
use Rattle.sm_history.specs.Effects.{Effects}
use Rattle.sm_history.specs.Clients.{is_live}
use Rattle.sm_history.specs.Inboxes.{inbox_at}
use Rattle.sm_history.proofs.AfterInboxes.{inbox_delivers, inbox_takes, inbox_dies}
use Rattle.sm_history.proofs.Sound.{taken_delivers, taken_takes}
use Rattle.sm_inbox.specs.declared.inbox.Inbox.{Inbox}
use Rattle.sm_history.specs.Tables.{IsChanged, IsPlace}
use Rattle.sm_inbox.proofs.RowLemmas.{client}
use Rattle.sm_inbox.specs.Rows.{inbox_of, waiting_in}
use Rattle.sm_inbox.specs.Tracking.{TracksRows}
use Rattle.sm_history.proofs.ClientRows.{by_client, self_same, row_pushed, row_read, row_written}

pub tracks_same : (d : Effects) (rows rows' : List Inbox) (c : ℕ) (o : Option Inbox) → IsChanged client rows rows' c o
    → waiting_in o ≡ waiting_in (inbox_of rows c) → TracksRows d rows → TracksRows d rows'
tracks_same d rows rows' c o ch e tr = record {
  taken = tr.taken;
  queues = by_client (λ k. waiting_in (inbox_of rows' k) ≡ inbox_at d k) c (ap waiting_in ch.own ∙ e ∙ tr.queues c)
      (λ k f. ap waiting_in (ch.other k f) ∙ tr.queues k);
}

pub tracks_delivers : (d : Effects) (rows rows' : List Inbox) (c : ℕ) (o : Option Inbox) (x : Delivery)
    → IsChanged client rows rows' c o
    → waiting_in o ≡ waiting_in (inbox_of rows c) ++ x ∷ [] → is_live d c ≡ true → TracksRows d rows
    → TracksRows (Delivers c x ∷ d) rows'
tracks_delivers d rows rows' c o x ch e live tr = record {
  taken = taken_delivers d c x tr.taken;
  queues = by_client (λ k. waiting_in (inbox_of rows' k) ≡ inbox_at (Delivers c x ∷ d) k) c
      (ap waiting_in ch.own ∙ e ∙ ap (λ xs. xs ++ x ∷ []) (tr.queues c) ∙
      sym (inbox_delivers d c x c tr.taken ∙ rw (self_same c, live) refl))
      (λ k f. ap waiting_in (ch.other k f) ∙ tr.queues k ∙ sym (inbox_delivers d c x k tr.taken ∙ rw f refl));
}

some_waits : (x : Delivery) (xs ys : List Delivery) → ys ≡ x ∷ xs → nat_lt 0 (length ys) ≡ true
some_waits x xs ys e = let n = ap (length {A = Delivery}) e in grind (arith, nat_tests)

pub tracks_takes : (d : Effects) (rows rows' : List Inbox) (c : ℕ) (o : Option Inbox) (x : Delivery)
    → IsChanged client rows rows' c o
    → waiting_in (inbox_of rows c) ≡ x ∷ waiting_in o → TracksRows d rows → TracksRows (Takes c ∷ d) rows'
tracks_takes d rows rows' c o x ch e tr =
    let there : inbox_at d c ≡ x ∷ waiting_in o = sym (tr.queues c) ∙ e in
    record {
      taken = taken_takes d c (some_waits x (waiting_in o) (inbox_at d c) there) tr.taken;
      queues = by_client (λ k. waiting_in (inbox_of rows' k) ≡ inbox_at (Takes c ∷ d) k) c
          (ap waiting_in ch.own ∙ sym (inbox_takes d c c ∙ rw (self_same c, there) refl))
          (λ k f. ap waiting_in (ch.other k f) ∙ tr.queues k ∙ sym (inbox_takes d c k ∙ rw f refl));
    }

pub tracks_dies : (d : Effects) (rows rows' : List Inbox) (c : ℕ) → IsChanged client rows rows' c None
    → TracksRows d rows → TracksRows (Dies c ∷ d) rows'
tracks_dies d rows rows' c ch tr = record {
  taken = tr.taken;
  queues = by_client (λ k. waiting_in (inbox_of rows' k) ≡ inbox_at (Dies c ∷ d) k) c
      (ap waiting_in ch.own ∙ sym (inbox_dies d c c ∙ rw (self_same c) refl))
      (λ k f. ap waiting_in (ch.other k f) ∙ tr.queues k ∙ sym (inbox_dies d c k ∙ rw f refl));
}

-- A row of which nothing waits.
pub tracks_pushed : (d : Effects) (rows : List Inbox) (r : Inbox) → inbox_of rows r.client ≡ None
    → r.waiting.items ≡ [] → TracksRows d rows → TracksRows d (rows ++ r ∷ [])
tracks_pushed d rows r none empty tr = tracks_same d rows (rows ++ r ∷ []) r.client (Some r) (row_pushed _ rows r none)
    (empty ∙ sym (ap waiting_in none)) tr

-- What a take found, and left.
pub tracks_popped : (d : Effects) (rows : List Inbox) (c i : ℕ) (r r' : Inbox) (o : Option Delivery)
    → IsPlace client rows c i → r ≡ get_or rows i r → r'.client ≡ r.client
    → MatchOption o ((r.waiting.items ≡ []) × (r'.waiting.items ≡ [])) (λ x. r.waiting.items ≡ x ∷ r'.waiting.items) →
    TracksRows d rows
    → MatchOption o ((inbox_at d c ≡ []) × TracksRows d (set rows i r'))
    (λ x. (inbox_at d c ≡ x ∷ drop 1 (inbox_at d c)) × TracksRows (Takes c ∷ d) (set rows i r'))
tracks_popped d rows c i r r' None at e same left tr =
    let there = ap waiting_in (row_read _ rows c i r at e) in (
      sym (tr.queues c) ∙ there ∙ left.0,
      tracks_same d rows (set rows i r') c (Some r') (row_written _ rows c i r r' at e same)
          (left.1 ∙ sym (there ∙ left.0)) tr,
    )
tracks_popped d rows c i r r' (Some x) at e same left tr =
    let there = ap waiting_in (row_read _ rows c i r at e) in
    let found : inbox_at d c ≡ x ∷ r'.waiting.items = sym (tr.queues c) ∙ there ∙ left in (
      found ∙ ap (λ ys. x ∷ ys) (sym (ap (drop 1) found)),
      tracks_takes d rows (set rows i r') c (Some r') x (row_written _ rows c i r r' at e same) (there ∙ left) tr,
    )
