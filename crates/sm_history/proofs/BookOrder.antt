-- The algebra of books of which one begins with another.
use Rattle.std.proofs.Common.{◌≡◌, ◌+◌, ℕ, true, List, [], ◌∷◌, refl, ap, sym, subst, ◌∙◌, arith}
use Rattle.sm_history.specs.declared.by.By.{By}
use Rattle.sm_history.specs.declared.by.By.TheVariants.{Manager, Client, Admin}
use Rattle.sm_history.specs.declared.entry.Entry.{Entry}
use Rattle.sm_history.specs.Books.{Book}
use Rattle.sm_history.specs.Beginning.{Move, Made, Seals, gone_on, AreJudged, BeginsWith}
use Rattle.sm_history.specs.Lawful.{IsJudged}
use Rattle.sm_history.specs.Histories.{History, entered, turn_of}
use Rattle.sm_history.specs.Openings.{is_same}
use Rattle.sm_history.proofs.Beginnings.{begins_itself, begins_before, begins_sealed, begins_through}
use Rattle.sm_history.proofs.LawfulLaws.{turn_same}
use Rattle.sm_history.specs.BookOrder.{Begins, extended, sealed_book}
use Rattle.sm_history.proofs.ClientRows.{self_same}

pub same_actor : (by : By) → is_same by by ≡ true
same_actor Manager = refl
same_actor (Client c) = self_same c.0
same_actor (Admin a) = self_same a.0

pub book_itself : (b : Book) → Begins b b
book_itself b = record { places = refl; history = begins_itself b.places b.history }

pub book_before : (b : Book) (e : Entry) → IsJudged b.places e b.history → Begins (extended b e) b
book_before b e judged = record { places = refl; history = begins_before b.places e b.history judged }

pub book_behind : (b : Book) → Begins (sealed_book b) b
book_behind b = record { places = refl; history = begins_sealed b.places b.history }

pub book_through : (x y z : Book) → Begins x y → Begins y z → Begins x z
book_through x y z p q = record {
  places = p.places ∙ q.places;
  history =
      begins_through x.places x.history y.history z.history p.history
      (subst (λ (n : ℕ). BeginsWith n y.history z.history) (sym p.places) q.history);
}

-- A change is one more of its actor.
pub one_more : (b : Book) (e : Entry) → turn_of (extended b e).history e.by ≡ turn_of b.history e.by + 1
one_more b e = turn_same e b.history e.by (same_actor e.by)

-- The history before the last change.
last_change : (e x : Entry) (g h : History) → entered e g ≡ entered x h → g ≡ h
last_change e x g h is =
    let number : g.number ≡ h.number = ap (λ k. k.number) is in
    let opening : g.opening ≡ h.opening = ap (λ k. k.opening) is in
    let all : e ∷ g.entries ≡ x ∷ h.entries = ap (λ k. k.entries) is in
    let entries : g.entries ≡ h.entries = cc all in
    λ i. record { number = number i; opening = opening i; entries = entries i }

-- A beginning of the book after a change, with no change more of its actor, is one of the book before it.
pub before_change : (b o : Book) (e : Entry) → Begins (extended b e) o
    → turn_of o.history e.by ≡ turn_of b.history e.by → Begins b o
before_change b o e p same = by_moves p.history.moves p.history.is p.history.judged
  where
    apart : entered e b.history ≡ o.history → ⊥
    apart is =
        let n : turn_of (entered e b.history) e.by ≡ turn_of o.history e.by = ap (λ h. turn_of h e.by) is in
        let more = one_more b e in
        omega (arith, n, more, same)

    by_moves : (moves : List Move) → entered e b.history ≡ gone_on o.history moves
        → AreJudged b.places o.history moves → Begins b o
    by_moves [] is judged = absurd (apart is)
    by_moves (Made x ∷ moves) is judged = record {
      places = p.places;
      history =
          record { moves = moves; is = last_change e x b.history (gone_on o.history moves) is; judged = judged.1 };
    }
    by_moves (Seals ∷ moves) is judged = absurd (let none : e ∷ b.history.entries ≡ [] = ap (λ h. h.entries) is in cc none)
