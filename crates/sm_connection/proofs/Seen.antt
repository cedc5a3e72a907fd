-- A session at a desk, seen by a part of the desk that its answers speak of.
use Rattle.std.proofs.Common.{◌-◌, ℕ, List, [], ◌∷◌, Bool, true, false, ap, inl, inr, Option, Result, Ok, Err}
use Rattle.std.specs.Prelude.{MatchBool}
use Rattle.sm_wire.specs.declared.item.Item.{Item}
use Rattle.sm_wire.specs.declared.kind.Kind.{Kind}
use Rattle.sm_engine.specs.declared.fault.Fault.{Fault}
use Rattle.sm_engine.specs.declared.fault.Fault.TheVariants.{ReadFault, WriteFault, TooManyReads, LineTooLong, Memory}
use Rattle.sm_engine.specs.Running.{Runs, Wrote, CaughtUp, Stopped, LastRead, Ended, AnswersAll, Fronts}
use Rattle.sm_engine.specs.Running.{ByResult}
use Rattle.sm_wire.specs.declared.item.Item.TheVariants as items
use Rattle.sm_connection.specs.declared.response.Response.{Response}
use Rattle.sm_connection.specs.declared.session_state.SessionState.{SessionState}
use Rattle.sm_connection.specs.Desks.{Answers, DeskAnswers, DeskDeath}
use Rattle.sm_connection.specs.Sessions.{AnswersItem, AsksOnce, Attends, SaysOnly}
use Rattle.sm_connection.specs.Sessions.{begins, held_limit, is_asked, is_over, said_to}

by_cases : (b : Bool) {P Q R T : Type 0} → (P → R) → (Q → T) → MatchBool b P Q → MatchBool b R T
by_cases true p q x = p x
by_cases false p q x = q x

module _ {D S : Type 0} (f : D → S) (under : D → Item → Response → D → Type 0)
    (answers : S → Item → Response → S → Type 0)
    (asked : (old : D) (item : Item) (response : Response) (new : D) → under old item response new
    → answers (f old) item response (f new)) where
  -- The session with the part in place of the desk.
  abbrev shown : SessionState D → SessionState S
  shown s = record { kind = s.kind; desk = f s.desk; connected = s.connected; over = s.over }

  asks_once : (old : SessionState D) (item : Item) (text : List ℕ) (new : SessionState D)
      → AsksOnce under old item text new → AsksOnce answers (shown old) item text (shown new)
  asks_once old item text new p = (
    p.0,
    record {
      asked = asked old.desk item p.0 new.desk p.1.asked;
      connected = p.1.connected;
      over = p.1.over;
      kind = p.1.kind;
    },
    p.2,
  )

  says_only : (old : SessionState D) (words text : List ℕ) (new : SessionState D)
      → SaysOnly old words text new → SaysOnly (shown old) words text (shown new)
  says_only old words text new p = (p.0, ap shown p.1)

  item_seen : (old : SessionState D) (item : Item) (text audit : List ℕ) (new : SessionState D)
      → AnswersItem under old item text audit new → AnswersItem answers (shown old) item text audit (shown new)
  item_seen old item text audit new p = (
    by_cases old.over (says_only old [] text new)
        (by_cases (is_asked old.kind old.connected item) (asks_once old item text new)
        (says_only old (said_to item) text new)) p.0,
    p.1,
  )

  runs_seen : (old : SessionState D) (items : List Item) (text audit : List ℕ) (new : SessionState D)
      → Runs (AnswersItem under) old items text audit new
      → Runs (AnswersItem answers) (shown old) items text audit (shown new)
  runs_seen old [] text audit new p = (ap shown p.0, p.1, p.2)
  runs_seen old (item ∷ items) text audit new p = (
    shown p.0,
    p.1,
    p.2,
    p.3,
    p.4,
    item_seen old item p.1 p.2 p.0 p.5,
    runs_seen p.0 items p.3 p.4 new p.6,
    p.7,
    p.8,
  )

  wrote_seen : (old : SessionState D) (items : List Item) (w w_new a a_new : Option (List ℕ)) (new : SessionState D)
      → Wrote (AnswersItem under) old items w w_new a a_new new
      → Wrote (AnswersItem answers) (shown old) items w w_new a a_new (shown new)
  wrote_seen old items w w_new a a_new new p = record {
    replies = p.replies;
    lines = p.lines;
    runs = runs_seen old items p.replies p.lines new p.runs;
    wrote = p.wrote;
    audited = p.audited;
  }

  caught_up_seen : (kind : Kind) (reads : ℕ) (old : SessionState D) (bytes : List ℕ) (w w_new a a_new : Option (List ℕ))
      (new : SessionState D) → CaughtUp kind (AnswersItem under) is_over reads old bytes w w_new a a_new new
      → CaughtUp kind (AnswersItem answers) is_over reads (shown old) bytes w w_new a a_new (shown new)
  caught_up_seen kind reads old bytes w w_new a a_new new p = record {
    wrote = wrote_seen old _ w w_new a a_new new p.wrote;
    alive = p.alive;
    going_on = p.going_on;
    enough = p.enough;
  }

  stopped_seen : (limit : ℕ) (old : SessionState D) (items : List Item) (w w_new a a_new : Option (List ℕ))
      (new : SessionState D) → Stopped limit (AnswersItem under) old items w w_new a a_new new
      → Stopped limit (AnswersItem answers) (shown old) items w w_new a a_new (shown new)
  stopped_seen limit old items w w_new a a_new new p = record {
    earlier = p.earlier;
    last = p.last;
    others = p.others;
    all = p.all;
    one = p.one;
    middle = shown p.middle;
    replies = p.replies;
    lines = p.lines;
    runs = runs_seen old p.earlier p.replies p.lines p.middle p.runs;
    last_replies = p.last_replies;
    last_lines = p.last_lines;
    ends = runs_seen p.middle p.last p.last_replies p.last_lines new p.ends;
    wrote = p.wrote;
    audited = p.audited;
  }

  -- What holds of the items of the last read is seen by what is seen of them.
  last_read_seen : (kind : Kind) (reads : ℕ) (old : SessionState D) (bytes : List ℕ) (w a : Option (List ℕ))
      (P : SessionState D → List Item → Option (List ℕ) → Option (List ℕ) → Type 0)
      (Q : SessionState S → List Item → Option (List ℕ) → Option (List ℕ) → Type 0)
      → ((middle : SessionState D) (items : List Item) (u v : Option (List ℕ)) → P middle items u v
      → Q (shown middle) items u v)
      → LastRead kind (AnswersItem under) is_over reads old bytes w a P
      → LastRead kind (AnswersItem answers) is_over reads (shown old) bytes w a Q
  last_read_seen kind reads old bytes w a P Q seen p = record {
    earlier = p.earlier;
    piece = p.piece;
    joined = p.joined;
    middle = shown p.middle;
    w_middle = p.w_middle;
    a_middle = p.a_middle;
    before = caught_up_seen kind (reads - 1) old p.earlier w p.w_middle a p.a_middle p.middle p.before;
    takes = seen p.middle _ p.w_middle p.a_middle p.takes;
  }

  all_seen : (kind : Kind) (reads : ℕ) (old : SessionState D) (bytes : List ℕ) (w w_new a a_new : Option (List ℕ))
      (new : SessionState D) → AnswersAll kind (AnswersItem under) is_over reads old bytes w w_new a a_new new
      → AnswersAll kind (AnswersItem answers) is_over reads (shown old) bytes w w_new a a_new (shown new)
  all_seen kind reads old bytes w w_new a a_new new =
      last_read_seen kind reads old bytes w a _ _ (λ middle items u v. wrote_seen middle items u w_new v a_new new)

  ended_seen : (kind : Kind) (reads : ℕ) (old : SessionState D) (bytes : List ℕ) (w w_new a a_new : Option (List ℕ))
      (ending : List ℕ) (new : SessionState D)
      → Ended kind (AnswersItem under) is_over reads old bytes w w_new a a_new ending new
      → Ended kind (AnswersItem answers) is_over reads (shown old) bytes w w_new a a_new ending (shown new)
  ended_seen kind reads old bytes w w_new a a_new ending new p = record {
    w_middle = p.w_middle;
    before = caught_up_seen kind (reads - 1) old bytes w p.w_middle a a_new new p.before;
    ended = p.ended;
  }

  fronts_seen : (kind : Kind) (limit reads : ℕ) (old : SessionState D) (bytes : List ℕ)
      (w w_new a a_new : Option (List ℕ)) (new : SessionState D)
      → Fronts kind (AnswersItem under) is_over limit reads old bytes w w_new a a_new new
      → Fronts kind (AnswersItem answers) is_over limit reads (shown old) bytes w w_new a a_new (shown new)
  fronts_seen kind limit reads old bytes w w_new a a_new new (inl p) =
      inl (last_read_seen kind reads old bytes w a _ _
      (λ middle items u v. stopped_seen limit middle items u w_new v a_new new) p)
  fronts_seen kind limit reads old bytes w w_new a a_new new (inr p) =
      inr (p.0, ended_seen kind reads old bytes w w_new a a_new _ new p.1)

  result_seen : (kind : Kind) (result : Result (Unit {0}) Fault) (limit bound reads : ℕ) (old : SessionState D)
      (bytes : List ℕ) (w w_new a a_new : Option (List ℕ)) (new : SessionState D)
      → ByResult kind result (AnswersItem under) is_over limit bound reads old bytes w w_new a a_new new
      → ByResult kind result (AnswersItem answers) is_over limit bound reads (shown old) bytes w w_new a a_new
      (shown new)
  result_seen kind (Ok x) limit bound reads old bytes w w_new a a_new new p = by_cases new.over
      (all_seen kind reads old bytes w w_new a a_new new) (ended_seen kind reads old bytes w w_new a a_new _ new) p
  result_seen kind (Err ReadFault) limit bound reads old bytes w w_new a a_new new p =
      caught_up_seen kind (reads - 1) old bytes w w_new a a_new new p
  result_seen kind (Err TooManyReads) limit bound reads old bytes w w_new a a_new new p =
      (caught_up_seen kind reads old bytes w w_new a a_new new p.0, p.1)
  result_seen kind (Err LineTooLong) limit bound reads old bytes w w_new a a_new new p =
      (all_seen kind reads old bytes w w_new a a_new new p.0, p.1)
  result_seen kind (Err WriteFault) limit bound reads old bytes w w_new a a_new new p =
      fronts_seen kind limit reads old bytes w w_new a a_new new p
  result_seen kind (Err Memory) limit bound reads old bytes w w_new a a_new new p =
      fronts_seen kind limit reads old bytes w w_new a a_new new p

  attends_seen : (goes : D → D → Type 0) (death : S → S → Type 0)
      (told : (old new : D) → goes old new → death (f old) (f new)) (kind : Kind) (result : Result (Unit {0}) Fault)
      (bound reads : ℕ) (old : D) (r r_new w w_new : Option (List ℕ)) (new : D)
      → Attends kind under goes result bound reads old r r_new w w_new new
      → Attends kind answers death result bound reads (f old) r r_new w w_new (f new)
  attends_seen goes death told kind result bound reads old r r_new w w_new new p = record {
    last = shown p.last;
    served = record {
      bytes = p.served.bytes;
      consumed = p.served.consumed;
      written = result_seen kind result held_limit bound reads (begins kind old) p.served.bytes w w_new _ _ p.last
          p.served.written;
    };
    end = p.end;
    told = by_cases p.last.connected (told p.last.desk new) (λ e. ap f e) p.told;
  }

module _ {D S : Type 0} (f : D → S) (answers : Answers S) where
  -- The desk answers as its part does.
  abbrev under : Answers D
  under old command response new = answers (f old) command response (f new)

  answered : (old : D) (item : Item) (response : Response) (new : D) → DeskAnswers under old item response new
      → DeskAnswers answers (f old) item response (f new)
  answered old (items.Asked request) response new p = p
  answered old (items.Policy texts) response new (inl p) = inl (p.0, p.1, p.2, ap f p.3)
  answered old (items.Policy texts) response new (inr p) = inr p
  answered old items.Malformed response new p = absurd p
  answered old items.LineTooLong response new p = absurd p

  pub desk_seen : (kind : Kind) (result : Result (Unit {0}) Fault) (bound reads : ℕ) (old : D)
      (r r_new w w_new : Option (List ℕ)) (new : D)
      → Attends kind (DeskAnswers under) (DeskDeath under) result bound reads old r r_new w w_new new
      → Attends kind (DeskAnswers answers) (DeskDeath answers) result bound reads (f old) r r_new w w_new (f new)
  desk_seen = attends_seen f (DeskAnswers under) (DeskAnswers answers) answered (DeskDeath under)
      (DeskDeath answers) (λ (old new : D) p. p)
