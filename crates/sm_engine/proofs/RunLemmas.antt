-- The answers to a list of items, as the list gets longer.
use Rattle.std.proofs.Common.{◌≡◌, ℕ, ◌-◌, ◌≤◌, List, [], ◌∷◌, ◌++◌, length, Option, refl, sym, append_assoc, inl, inr}
use Rattle.std.proofs.Common.{arith}
use Rattle.std.proofs.lemmas.List.{append-nil}
use Rattle.sm_wire.specs.declared.item.Item.{Item}
use Rattle.sm_engine.specs.Running.{Answers, Runs, Answered, GaveUp, Going, Stopped, Wrote, Spilled}
use Rattle.sm_engine.proofs.KnownLemmas.{Pending-spill, Pending-more, Pending-end, Partly-spilled}
use Rattle.sm_engine.proofs.KnownLemmas.{Spilled-none}

pub Runs-append : {S : Type 0} (answers : Answers S) (s m t : S) (is js : List Item) (r r' a a' : List ℕ)
    → Runs answers s is r a m → Runs answers m js r' a' t → Runs answers s (is ++ js) (r ++ r') (a ++ a') t
Runs-append answers s m t [] js r r' a a' p q = rw (p.1, p.2, p.0) q
Runs-append answers s m t (i ∷ is) js r r' a a' p q = (
  p.0,
  p.1,
  p.2,
  p.3 ++ r',
  p.4 ++ a',
  p.5,
  Runs-append answers p.0 m t is js p.3 r' p.4 a' p.6 q,
  rw (p.7, append_assoc) refl,
  rw (p.8, append_assoc) refl,
)

pub Runs-one : {S : Type 0} (answers : Answers S) (s t : S) (i : Item) (r a : List ℕ)
    → answers s i r a t → Runs answers s (i ∷ []) r a t
Runs-one answers s t i r a p = (t, r, a, [], [], p, (refl, refl, refl), sym (append-nil r), sym (append-nil a))

-- One more item is answered.
pub going_answer : {S : Type 0} {answers : Answers S} {old m t : S} {items : List Item}
    {w w' a a' : Option (List ℕ)} {held held' held_lines held_lines' : List ℕ} {item : Item}
    → Going answers old items w w' a a' held held_lines m → Answered answers m item held held' held_lines held_lines' t
    → Going answers old (items ++ item ∷ []) w w' a a' held' held_lines' t
going_answer {S} {answers} {old} {m} {t} {items} {w} {w'} {a} {a'} {held} {held'} {held_lines} {held_lines'}
    {item} g n = record {
      replies = g.replies ++ n.reply;
      lines = g.lines ++ n.lines;
      runs = Runs-append answers old m t items (item ∷ []) g.replies n.reply g.lines n.lines g.runs
          (Runs-one answers m t item n.reply n.lines n.step);
      wrote = Pending-more n.reply g.wrote n.replied;
      audited = Pending-more n.lines g.audited n.audited;
    }

-- What is held is written once it is much.
pub going_spill : {S : Type 0} {answers : Answers S} {old m : S} {items : List Item}
    {w w' w'' a a' a'' : Option (List ℕ)} {held held' held_lines held_lines' : List ℕ}
    → Going answers old items w w' a a' held held_lines m → Spilled w' w'' held held'
    → Spilled a' a'' held_lines held_lines' → Going answers old items w w'' a a'' held' held_lines' m
going_spill g s t = record {
  replies = g.replies;
  lines = g.lines;
  runs = g.runs;
  wrote = Pending-spill g.wrote s;
  audited = Pending-spill g.audited t;
}

-- The items so far were answered, then these last ones, of which there is one at most, and of all their texts fronts
-- are written.
going_stop : {S : Type 0} {answers : Answers S} {old m t : S} {items : List Item}
    {w w' w'' a a' a'' : Option (List ℕ)} {held held' rest held_lines held_lines' rest_lines : List ℕ} (limit : ℕ)
    → Going answers old items w w' a a' held held_lines m → length held ≤ limit - 1 → length held_lines ≤ limit - 1
    → (last others all : List Item) (reply lines : List ℕ) → length last ≤ 1 → Runs answers m last reply lines t
    → held' ≡ held ++ reply → Spilled w' w'' held' rest → held_lines' ≡ held_lines ++ lines
    → Spilled a' a'' held_lines' rest_lines → all ≡ items ++ (last ++ others)
    → Stopped limit answers old all w w'' a a'' t
going_stop {m = m} {items = items} limit g short short_lines last others all reply lines one runs e s f t is = record {
  earlier = items;
  last = last;
  others = others;
  all = is;
  one = one;
  middle = m;
  replies = g.replies;
  lines = g.lines;
  runs = g.runs;
  last_replies = reply;
  last_lines = lines;
  ends = runs;
  wrote = Partly-spilled limit reply g.wrote short e s;
  audited = Partly-spilled limit lines g.audited short_lines f t;
}

-- One more item was answered, and then a write failed.
pub going_fail : {S : Type 0} {answers : Answers S} {old m t : S} {items : List Item}
    {w w' w'' a a' a'' : Option (List ℕ)} {held held' rest held_lines held_lines' rest_lines : List ℕ} (limit : ℕ)
    → Going answers old items w w' a a' held held_lines m → length held ≤ limit - 1 → length held_lines ≤ limit - 1
    → (item : Item) → Answered answers m item held held' held_lines held_lines' t → Spilled w' w'' held' rest
    → Spilled a' a'' held_lines' rest_lines → (others all : List Item) → all ≡ items ++ item ∷ others
    → Stopped limit answers old all w w'' a a'' t
going_fail {answers = answers} {m = m} {t = t} limit g short short_lines item n s u others all is =
    going_stop limit g short short_lines (item ∷ []) others all n.reply n.lines (omega arith)
    (Runs-one answers m t item n.reply n.lines n.step) n.replied s n.audited u is

-- No item was left when a write failed.
pub going_fail_end : {S : Type 0} {answers : Answers S} {old m : S} {items : List Item}
    {w w' w'' a a' a'' : Option (List ℕ)} {held rest held_lines rest_lines : List ℕ} (limit : ℕ)
    → Going answers old items w w' a a' held held_lines m → length held ≤ limit - 1 → length held_lines ≤ limit - 1
    → Spilled w' w'' held rest → Spilled a' a'' held_lines rest_lines → (others all : List Item)
    → all ≡ items ++ others → Stopped limit answers old all w w'' a a'' m
going_fail_end {held = held} {held_lines = held_lines} limit g short short_lines s u others all is =
    going_stop limit g short short_lines [] others all [] [] (omega arith) (refl, refl, refl)
    (sym (append-nil held)) s (sym (append-nil held_lines)) u is

-- Memory runs out when the next item is answered, or before.
pub going_lost : {S : Type 0} {answers : Answers S} {old m : S} {items : List Item} {w w' a a' : Option (List ℕ)}
    {held held_lines : List ℕ} (limit : ℕ) → Going answers old items w w' a a' held held_lines m
    → length held ≤ limit - 1 → length held_lines ≤ limit - 1 → (item : Item) (t : S) → GaveUp answers m item t
    → (others all : List Item) → all ≡ items ++ item ∷ others → Stopped limit answers old all w w' a a' t
going_lost {w' = w'} {a' = a'} {held = held} {held_lines = held_lines} limit g short short_lines item t (inl e) others
    all is =
    rw e (going_fail_end limit g short short_lines (Spilled-none w' held) (Spilled-none a' held_lines) (item ∷ others)
    all is)
going_lost {answers = answers} {m = m} {w' = w'} {a' = a'} {held = held} {held_lines = held_lines} limit g short
    short_lines item t (inr n) others all is =
    going_stop limit g short short_lines (item ∷ []) others all n.0 n.1 (omega arith)
    (Runs-one answers m t item n.0 n.1 n.2) refl (Spilled-none w' (held ++ n.0)) refl
    (Spilled-none a' (held_lines ++ n.1)) is

-- All is written.
pub going_end : {S : Type 0} {answers : Answers S} {old m : S} {items : List Item} {w w' w'' a a' a'' : Option (List ℕ)}
    {held rest held_lines rest_lines : List ℕ} → Going answers old items w w' a a' held held_lines m
    → Spilled w' w'' held rest → length rest ≤ 0 → Spilled a' a'' held_lines rest_lines → length rest_lines ≤ 0
    → (all : List Item) → items ≡ all → Wrote answers old all w w'' a a'' m
going_end g s p t q all e = record {
  replies = g.replies;
  lines = g.lines;
  runs = rw (← e) g.runs;
  wrote = Pending-end (Pending-spill g.wrote s) p;
  audited = Pending-end (Pending-spill g.audited t) q;
}
