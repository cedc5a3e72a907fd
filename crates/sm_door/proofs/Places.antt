-- Each step keeps the rule.
use Rattle.std.proofs.Common.{◌≡◌, ◌≢◌, ℕ, ◌+◌, List, [], ◌∷◌, ◌++◌, set, fold, refl, sym, ap, ◌∙◌, subst}
use Rattle.std.proofs.Common.{⊎_elim, inl, inr}
use mathlib.Core.Option.{some, some-ne-none}
use lib.ListN.{get_elem?}
use Rattle.crossbeam_utils.specs.Register.{Admits, TurnsAt}
use Rattle.atomic_table.proofs.Lists.{at_set, at_snoc}
use Rattle.sm_history.specs.Books.{Book}
use Rattle.sm_values.specs.declared.identity.Identity.{Identity}
use Rattle.sm_history.specs.Histories.{History, entered, turn_of}
use Rattle.sm_history.specs.Records.{records}
use Rattle.sm_history.specs.Segments.{sealed}
use Rattle.sm_history.specs.Verdict.{verdict}
use Rattle.sm_history.specs.declared.by.By.{By}
use Rattle.sm_history.specs.declared.by.By.TheVariants.{Manager}
use Rattle.sm_history.specs.declared.event.Event.{Event}
use Rattle.sm_history.specs.declared.event.Event.TheVariants.{Connect}
use Rattle.sm_history.specs.declared.entry.Entry.{Entry}
use Rattle.sm_history.specs.declared.outcome.Outcome.{Outcome}
use Rattle.sm_history.specs.declared.records.Record.{Record}
use Rattle.sm_history.specs.declared.refusal.Refusal.TheVariants.{Memory}
use Rattle.sm_history.specs.declared.reply.Reply.{Reply}
use Rattle.sm_history.specs.declared.reply.Reply.TheVariants.{Done, Refused}
use Rattle.sm_audit.specs.Rings.{newest_of}
use Rattle.sm_core.specs.Managed.{IsSame, IsAnswer, ring_after, step_leaves}
use Rattle.sm_history.specs.BookOrder.{Begins}
use Rattle.sm_history.specs.Steps.{Steps, ClosesSegment}
use Rattle.sm_history.proofs.BookOrder.{book_itself, book_through}
use Rattle.sm_door.specs.declared.published.ReaderKnowledge.{ReaderKnowledge}
use Rattle.sm_door.specs.Locked.{Locked, Connects}
use Rattle.sm_door.specs.Rule.{Keeps, Enters, known}

module _ (o : Book) where
  pub keeps_set : (b : Book) (views : List ReaderKnowledge) (seat : ℕ) (w : ReaderKnowledge) → Keeps o b views
      → Begins b w.seen → Keeps o b (set views seat w)
  keeps_set b views seat w h fits = (
    h.0,
    λ j u e. ⊎_elim
        (λ (t : (j ≡ seat) × (w ≡ u)). subst (λ (v : ReaderKnowledge). Begins b v.seen) t.1 fits)
        (λ (t : (j ≢ seat) × (get_elem? views j ≡ some u)). h.1 j u t.1)
        (at_set views seat j w u e),
  )

  pub keeps_snoc : (b : Book) (views : List ReaderKnowledge) (w : ReaderKnowledge) → Keeps o b views → Begins b w.seen
      → Keeps o b (views ++ w ∷ [])
  keeps_snoc b views w h fits = (
    h.0,
    λ j u e. ⊎_elim
        (λ (t : get_elem? views j ≡ some u). h.1 j u t)
        (λ (t : w ≡ u). subst (λ (v : ReaderKnowledge). Begins b v.seen) t fits)
        (at_snoc views w u j e),
  )

  pub keeps_more : (b b' : Book) (views : List ReaderKnowledge) → Begins b' b → Keeps o b views → Keeps o b' views
  keeps_more b b' views more h = (book_through b' b o more h.0, λ j u e. book_through b' b u.seen more (h.1 j u e))

  module _ {X : Type 0} (value : X → Book) where
    abbrev pub Holds : X → List ReaderKnowledge → Type 0
    Holds x = Keeps o (value x)

    pub starts : (x : X) → Begins (value x) o → Holds x (known o 0 ∷ [])
    starts x h = keeps_snoc (value x) [] (known o 0) (h, λ i v none. absurd (some-ne-none v (sym none))) h

    pub admits : Admits Holds (known o 0)
    admits x views h = keeps_snoc (value x) views (known o 0) h h.0

    pub enters : (seat : ℕ) (v : ReaderKnowledge) (x : X) → TurnsAt Holds seat v x x (λ v x y w. Enters v (value y) w)
    enters seat v x views h at =
        let w = known (value x) (v.reads + 1) in
        (w, keeps_set (value x) views seat w h (book_itself (value x)), (h.1 seat v at, refl))

    pub shows : (seat : ℕ) (v : ReaderKnowledge) (x y : X) → Begins (value y) (value x)
        → TurnsAt Holds seat v x y (λ v x y w. Unit {0})
    shows seat v x y more views h at =
        let all = keeps_more (value x) (value y) views more h in
        (v, keeps_set (value y) views seat v all (all.1 seat v at), tt)

-- After any operations, the last one counts.
pub fold_last : {S O : Type 0} (f : S → O → S) (s : S) (xs : List O) (o : O)
    → fold f s (xs ++ o ∷ []) ≡ f (fold f s xs) o
fold_last f s [] o = refl
fold_last f s (x ∷ xs) o = fold_last f (f s x) xs o

-- After any whole shared views, the last one is shown.
pub last_shown : {O : Type 0} (value : O → Book) (s : Book) (xs ys : List O) (o : O) (b : Book)
    → xs ≡ ys ++ o ∷ [] → b ≡ fold (λ (_ : Book) (x : O). value x) s xs → b ≡ value o
last_shown {O = O} value s xs ys o b is all =
    let after : Book → O → Book = λ _ x. value x in
    all ∙ (ap (λ l. fold after s l) is ∙ fold_last after s ys o)

pub same_book : (b b' : Book) → IsSame b b' → b' ≡ b
same_book b b' s i = record { places = s.places i; history = s.history i }

-- An allocation failed, and nothing was made.
pub steps_memory : (b b' : Book) (by : By) (turn : ℕ) (event : Event) → IsSame b b'
    → Steps b by turn event (Refused Memory) b'
steps_memory b b' by turn event s = inl (refl, same_book b b' s)

-- A step of the manager that made nothing.
pub steps_refused : (b b' : Book) (by : By) (turn : ℕ) (event : Event) (r : Reply) → IsSame b b'
    → IsAnswer b.places b.history by turn event r → Steps b by turn event r b'
steps_refused b b' by turn event r s answer =
    ⊎_elim
    (λ memory. inl (memory, same_book b b' s))
    (λ t. inr (
      t.0,
      same_book b b' s ∙ λ i. record {
        places = b.places;
        history = sym t.1 i;
      },
    ))
    answer

-- A step of the manager that was accepted.
pub steps_done : (b b' : Book) (e : Entry) (by : By) (turn : ℕ) (event : Event) (r : Reply)
    → verdict b.places b.history e.by e.turn e.event ≡ Done e.outcome → e.by ≡ by → e.turn ≡ turn → e.event ≡ event
    → r ≡ Done e.outcome → b'.places ≡ b.places → b'.history ≡ entered e b.history → Steps b by turn event r b'
steps_done b b' e by turn event r v x y z is places history =
    subst (λ (r : Reply). Steps b by turn event r b') (sym is)
    (inr (
      sym v ∙ (λ i. verdict b.places b.history (x i) (y i) (z i)),
      λ i. record {
        places = places i;
        history = (history
            ∙ λ j. entered (record { by = x j; turn = y j; event = z j; outcome = e.outcome }) b.history) i;
      },
    ))

-- The ring after a change that was made.
pub ring_done : (ring between new : List Record) (b : Book) (by : By) (turn : ℕ) (event : Event) (noted : List Record)
    (outcome : Outcome) (r : Reply) → r ≡ Done outcome → between ≡ ring
    → noted ≡ records b.places b.history by turn event → new ≡ newest_of (between ++ noted)
    → new ≡ ring_after ring b by turn event r
ring_done ring between new b by turn event noted outcome r is same left made =
    subst (λ (r : Reply). new ≡ ring_after ring b by turn event r) (sym is)
    (made ∙ λ i. newest_of (same i ++ left i))

-- The records that come with a change that was made.
pub leaves_done : (b : Book) (by : By) (turn : ℕ) (event : Event) (noted : List Record) (outcome : Outcome) (r : Reply)
    → r ≡ Done outcome → noted ≡ records b.places b.history by turn event → noted ≡ step_leaves b by turn event r
leaves_done b by turn event noted outcome r is left =
    subst (λ (r : Reply). noted ≡ step_leaves b by turn event r) (sym is) left

-- The one step of the manager that connects a process.
pub connects : (old new : Locked) (who : Identity) (due : ℕ) (r made : Reply) → due ≡ turn_of old.book.history Manager
    → made ≡ r → Steps old.book Manager due (Connect who) made new.book
    → new.ring ≡ ring_after old.ring old.book Manager due (Connect who) made → Connects old who r new
connects old new who due r made d e s g = record {
  steps = subst (λ (z : ℕ × Reply). Steps old.book Manager z.0 (Connect who) z.1 new.book) (λ i. (d i, e i)) s;
  ring = subst (λ (z : ℕ × Reply). new.ring ≡ ring_after old.ring old.book Manager z.0 (Connect who) z.1)
      (λ i. (d i, e i)) g;
}

-- A segment that was closed.
pub seals_done : (b b' : Book) (segment : History) → b.history.entries ≢ [] → segment ≡ b.history
    → b'.places ≡ b.places → b'.history ≡ sealed b.history → ClosesSegment b segment b'
seals_done b b' segment made is places history = record {
  segment_is = is;
  some = made;
  opens = λ i. record { places = places i; history = history i };
}
