-- Connections stay parts of later books.
use Rattle.std.proofs.Common.{◌≡◌, List, [], ◌∷◌, ◌++◌, Option, Some, None, inl, inr, subst, sym}
use Rattle.std.proofs.lemmas.List.Elements.{All-append, All-cons, All-nil}
use Rattle.std.specs.Prelude.{All, IfSome}
use Rattle.sm_history.specs.Books.{Book}
use Rattle.sm_history.specs.BookOrder.{Begins, IsLawfulBook}
use Rattle.sm_history.specs.declared.event.Event.TheVariants.{Die}
use Rattle.sm_history.specs.declared.outcome.Outcome.TheVariants.{Died}
use Rattle.sm_history.specs.declared.refusal.Refusal.{Refusal}
use Rattle.sm_history.specs.declared.reply.Reply.TheVariants.{Refused}
use Rattle.sm_history.specs.Promises.{Accepted, Submitted}
use Rattle.sm_history.specs.Tokens.{Grows, Knows, Sees, token}
use Rattle.sm_history.proofs.BookOrder.{book_itself, book_through}
use Rattle.sm_connection.specs.Connections.{GoesOn}
use Rattle.sm_account.specs.Served.{IsPartOf, OneRun, PartsStay, Served, both_told, with_served}

pub parts_stay : PartsStay
parts_stay b later c p q = record {
  served = p.served;
  goes_on = p.goes_on;
  begins = book_through later b c.last.seen q p.begins;
}

all_stay : (b later : Book) (all : List Served) → All (IsPartOf b) all → Begins later b → All (IsPartOf later) all
all_stay b later all p q = λ k d l. parts_stay b later _ (p k d l) q

pub told_stay : (b later : Book) (told : Option (List Served)) → IfSome told (All (IsPartOf b)) → Begins later b
    → IfSome told (All (IsPartOf later))
told_stay b later None p q = p
told_stay b later (Some all) p q = all_stay b later all p q

-- One more connection was served, and this is a book that its token has seen.
pub one_more : (b later : Book) (told : Option (List Served)) (c : Served) → IfSome told (All (IsPartOf b))
    → Begins later b → IsPartOf later c → IfSome (with_served told c) (All (IsPartOf later))
one_more b later None c p q r = p
one_more b later (Some all) c p q r = All-append (IsPartOf later) all (c ∷ []) (all_stay b later all p q)
    (All-cons (IsPartOf later) c [] r (All-nil (IsPartOf later)))

-- The connections of two accounts, whose tokens have met.
pub both : (a b later : Book) (told other : Option (List Served)) → IfSome told (All (IsPartOf a))
    → IfSome other (All (IsPartOf b)) → Begins later a → Begins later b
    → IfSome (both_told told other) (All (IsPartOf later))
both a b later None other p q x y = p
both a b later (Some all) None p q x y = q
both a b later (Some all) (Some more) p q x y =
    All-append (IsPartOf later) all more (all_stay a later all p x) (all_stay b later more q y)

pub same : (old new : Knows) → new ≡ old → GoesOn old new
same old new e =
    let P : Knows → Type 0 = λ k. GoesOn old k in
    subst P (sym e) (record { begins = book_itself old.seen; lawful = λ p. p })

grown : (old new : Knows) → Grows old new → GoesOn old new
grown old new p = record { begins = p.begins; lawful = λ q. p.lawful }

-- The client of a slot died, and this is its free seat.
pub dead : (old session seat : Knows) → session ≡ old
    → Accepted session (token session.by seat.seen seat.reads) Die Died → GoesOn old seat
dead old session seat e p =
    let P : Knows → Type 0 = λ k. GoesOn k seat in
    subst P e (record { begins = p.grows.begins; lawful = λ q. p.grows.lawful })

not_made : (session left : Knows) (refusal : Refusal) → Submitted session left Die (Refused refusal)
    → GoesOn session left
not_made session left refusal (inl p) = same session left p.1
not_made session left refusal (inr (inl p)) = same session left p.same
not_made session left refusal (inr (inr p)) = grown session left p.grows

-- The client of a slot couldn't die.
pub lives : (old session left : Knows) (refusal : Refusal) → session ≡ old
    → Submitted session left Die (Refused refusal) → GoesOn old left
lives old session left refusal e p =
    let P : Knows → Type 0 = λ k. GoesOn k left in subst P e (not_made session left refusal p)

-- A token has met another one, and both see this book.
pub met : (old new : Knows) (b : Book) → Sees old b new → GoesOn old new
met old new b p = grown old new p.grows

pub met_slot : (slot old new : Knows) (b : Book) → old ≡ slot → Sees old b new → Begins b slot.seen
met_slot slot old new b e p =
    let P : Knows → Type 0 = λ k. Begins b k.seen in
    let Q : Book → Type 0 = λ x. Begins x old.seen in
    subst P e (subst Q p.is p.grows.begins)

pub one_run : (opening last : Book) (told : Option (List Served)) → IsLawfulBook last → Begins last opening
    → IfSome told (All (IsPartOf last)) → IfSome told (OneRun opening last)
one_run opening last None p q r = r
one_run opening last (Some all) p q r = record { lawful = p; begins = q; each = r }
