-- What each answer of a desk keeps, a whole session keeps.
use Rattle.std.proofs.Common.{◌≡◌, ◌-◌, ℕ, List, [], ◌∷◌, Bool, true, false, sym, subst, inl, inr, Option}
use Rattle.std.proofs.Common.{Result, Ok, Err}
use Rattle.std.specs.Prelude.{MatchBool}
use Rattle.sm_wire.specs.declared.item.Item.{Item}
use Rattle.sm_wire.specs.declared.kind.Kind.{Kind}
use Rattle.sm_engine.specs.declared.fault.Fault.{Fault}
use Rattle.sm_engine.specs.declared.fault.Fault.TheVariants.{ReadFault, WriteFault, TooManyReads, LineTooLong, Memory}
use Rattle.sm_engine.specs.Running.{AnswersAll, ByResult, CaughtUp, Ended, Fronts, Runs, Stopped, StopsEarly, Wrote}
use Rattle.sm_connection.specs.declared.response.Response.{Response}
use Rattle.sm_connection.specs.declared.session_state.SessionState.{SessionState}
use Rattle.sm_connection.specs.Sessions.{AnswersItem, AsksOnce, Attends, SaysOnly, begins, held_limit, is_asked, is_over}
use Rattle.sm_connection.specs.Sessions.{said_to}

either : (b : Bool) {P Q R : Type 0} → (P → R) → (Q → R) → MatchBool b P Q → R
either true p q x = p x
either false p q x = q x

-- A relation of states that is an order, and holds from each state to the next.
module _ {S : Type 0} (answers : S → Item → Response → S → Type 0) (death : S → S → Type 0) (After : S → S → Type 0)
    (itself : (s : S) → After s s) (through : (a b c : S) → After a b → After b c → After a c)
    (asked : (s : S) (item : Item) (response : Response) (t : S) → answers s item response t → After s t)
    (told : (s t : S) → death s t → After s t) where
  abbrev Comes : SessionState S → SessionState S → Type 0
  Comes old new = After old.desk new.desk

  same : (old new : S) → new ≡ old → After old new
  same old new e = let P : S → Type 0 = λ s. After old s in subst P (sym e) (itself old)

  unasked : (old new : SessionState S) → new ≡ old → Comes old new
  unasked old new e = let P : SessionState S → Type 0 = λ s. Comes old s in subst P (sym e) (itself old.desk)

  item_keeps : (old : SessionState S) (item : Item) (text audit : List ℕ) (new : SessionState S)
      → AnswersItem answers old item text audit new → Comes old new
  item_keeps old item text audit new p = either old.over (λ (x : SaysOnly old [] text new). unasked old new x.1)
      (λ x. either (is_asked old.kind old.connected item)
      (λ (y : AsksOnce answers old item text new). asked old.desk item y.0 new.desk y.1.asked)
      (λ (y : SaysOnly old (said_to item) text new). unasked old new y.1) x) p.0

  runs_keep : (old : SessionState S) (items : List Item) (text audit : List ℕ) (new : SessionState S)
      → Runs (AnswersItem answers) old items text audit new → Comes old new
  runs_keep old [] text audit new p = unasked old new (sym p.0)
  runs_keep old (item ∷ items) text audit new p = through old.desk p.0.desk new.desk
      (item_keeps old item p.1 p.2 p.0 p.5) (runs_keep p.0 items p.3 p.4 new p.6)

  wrote_keeps : (old : SessionState S) (items : List Item) (w w_new a a_new : Option (List ℕ)) (new : SessionState S)
      → Wrote (AnswersItem answers) old items w w_new a a_new new → Comes old new
  wrote_keeps old items w w_new a a_new new p = runs_keep old items p.replies p.lines new p.runs

  caught_up_keeps : (kind : Kind) (reads : ℕ) (old : SessionState S) (bytes : List ℕ)
      (w w_new a a_new : Option (List ℕ)) (new : SessionState S)
      → CaughtUp kind (AnswersItem answers) is_over reads old bytes w w_new a a_new new → Comes old new
  caught_up_keeps kind reads old bytes w w_new a a_new new p = wrote_keeps old _ w w_new a a_new new p.wrote

  stopped_keeps : (limit : ℕ) (old : SessionState S) (items : List Item) (w w_new a a_new : Option (List ℕ))
      (new : SessionState S) → Stopped limit (AnswersItem answers) old items w w_new a a_new new → Comes old new
  stopped_keeps limit old items w w_new a a_new new p = through old.desk p.middle.desk new.desk
      (runs_keep old p.earlier p.replies p.lines p.middle p.runs)
      (runs_keep p.middle p.last p.last_replies p.last_lines new p.ends)

  all_keeps : (kind : Kind) (reads : ℕ) (old : SessionState S) (bytes : List ℕ) (w w_new a a_new : Option (List ℕ))
      (new : SessionState S) → AnswersAll kind (AnswersItem answers) is_over reads old bytes w w_new a a_new new
      → Comes old new
  all_keeps kind reads old bytes w w_new a a_new new p = through old.desk p.middle.desk new.desk
      (caught_up_keeps kind (reads - 1) old p.earlier w p.w_middle a p.a_middle p.middle p.before)
      (wrote_keeps p.middle _ p.w_middle w_new p.a_middle a_new new p.takes)

  early_keeps : (kind : Kind) (limit reads : ℕ) (old : SessionState S) (bytes : List ℕ)
      (w w_new a a_new : Option (List ℕ)) (new : SessionState S)
      → StopsEarly kind (AnswersItem answers) is_over limit reads old bytes w w_new a a_new new → Comes old new
  early_keeps kind limit reads old bytes w w_new a a_new new p = through old.desk p.middle.desk new.desk
      (caught_up_keeps kind (reads - 1) old p.earlier w p.w_middle a p.a_middle p.middle p.before)
      (stopped_keeps limit p.middle _ p.w_middle w_new p.a_middle a_new new p.takes)

  ended_keeps : (kind : Kind) (reads : ℕ) (old : SessionState S) (bytes : List ℕ) (w w_new a a_new : Option (List ℕ))
      (ending : List ℕ) (new : SessionState S)
      → Ended kind (AnswersItem answers) is_over reads old bytes w w_new a a_new ending new → Comes old new
  ended_keeps kind reads old bytes w w_new a a_new ending new p =
      caught_up_keeps kind (reads - 1) old bytes w p.w_middle a a_new new p.before

  fronts_keep : (kind : Kind) (limit reads : ℕ) (old : SessionState S) (bytes : List ℕ)
      (w w_new a a_new : Option (List ℕ)) (new : SessionState S)
      → Fronts kind (AnswersItem answers) is_over limit reads old bytes w w_new a a_new new → Comes old new
  fronts_keep kind limit reads old bytes w w_new a a_new new (inl p) =
      early_keeps kind limit reads old bytes w w_new a a_new new p
  fronts_keep kind limit reads old bytes w w_new a a_new new (inr p) =
      ended_keeps kind reads old bytes w w_new a a_new _ new p.1

  result_keeps : (kind : Kind) (result : Result (Unit {0}) Fault) (limit bound reads : ℕ) (old : SessionState S)
      (bytes : List ℕ) (w w_new a a_new : Option (List ℕ)) (new : SessionState S)
      → ByResult kind result (AnswersItem answers) is_over limit bound reads old bytes w w_new a a_new new
      → Comes old new
  result_keeps kind (Ok x) limit bound reads old bytes w w_new a a_new new p = either new.over
      (λ q. all_keeps kind reads old bytes w w_new a a_new new q)
      (λ q. ended_keeps kind reads old bytes w w_new a a_new _ new q) p
  result_keeps kind (Err ReadFault) limit bound reads old bytes w w_new a a_new new p =
      caught_up_keeps kind (reads - 1) old bytes w w_new a a_new new p
  result_keeps kind (Err TooManyReads) limit bound reads old bytes w w_new a a_new new p =
      caught_up_keeps kind reads old bytes w w_new a a_new new p.0
  result_keeps kind (Err LineTooLong) limit bound reads old bytes w w_new a a_new new p =
      all_keeps kind reads old bytes w w_new a a_new new p.0
  result_keeps kind (Err WriteFault) limit bound reads old bytes w w_new a a_new new p =
      fronts_keep kind limit reads old bytes w w_new a a_new new p
  result_keeps kind (Err Memory) limit bound reads old bytes w w_new a a_new new p =
      fronts_keep kind limit reads old bytes w w_new a a_new new p

  pub attends_keeps : (kind : Kind) (result : Result (Unit {0}) Fault) (bound reads : ℕ) (old : S)
      (r r_new w w_new : Option (List ℕ)) (new : S)
      → Attends kind answers death result bound reads old r r_new w w_new new → After old new
  attends_keeps kind result bound reads old r r_new w w_new new p = through old p.last.desk new
      (result_keeps kind result held_limit bound reads (begins kind old) p.served.bytes w w_new _ _ p.last
      p.served.written)
      (either p.last.connected (λ x. told p.last.desk new x) (λ e. same p.last.desk new e) p.told)
