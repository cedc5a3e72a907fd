-- A record of a history, run again as a script.
use Rattle.std.proofs.Common.{◌≡◌, ◌≢◌, ◌≤◌, ◌⊎◌, ℕ, inl, inr, List, [], ◌∷◌, ◌++◌, Option, Some}
use Rattle.std.proofs.Common.{Ok, refl, sym, ap, subst, ◌∙◌, ⊎_elim, append_assoc, append-nil}
use Rattle.sm_values.specs.declared.identity.Identity.{Identity}
use Rattle.sm_values.specs.declared.number.AdminId.{AdminId}
use Rattle.sm_values.specs.declared.number.ClientId.{ClientId}
use Rattle.sm_values.specs.Reading.{Fails}
use Rattle.sm_policy.specs.Policy.{Policy}
use Rattle.sm_policy.specs.Preparing.{is_memory, prepared}
use Rattle.sm_policy.specs.declared.fault.PolicyFault.{PolicyFault}
use Rattle.sm_policy.specs.declared.fault.PolicyFault.TheVariants.{Memory as NoMemory}
use Rattle.sm_history.specs.declared.by.By.{By}
use Rattle.sm_history.specs.declared.by.By.TheVariants.{Manager, Client, Admin}
use Rattle.sm_history.specs.declared.entry.Entry.{Entry}
use Rattle.sm_history.specs.declared.event.Event.{Event}
use Rattle.sm_history.specs.declared.event.Event.TheVariants.{Connect, Get, Reload}
use Rattle.sm_history.specs.declared.outcome.Outcome.{Outcome}
use Rattle.sm_history.specs.declared.records.Record.{Record}
use Rattle.sm_history.specs.declared.refusal.Refusal.TheVariants.{Memory}
use Rattle.sm_history.specs.declared.reply.Reply.{Reply}
use Rattle.sm_history.specs.declared.reply.Reply.TheVariants.{Done, Refused, Sealed}
use Rattle.sm_history.specs.Beginning.{Move, Made, Seals, gone_on, AreJudged}
use Rattle.sm_history.specs.Books.{Book}
use Rattle.sm_history.specs.Histories.{History, entered, length_of, turn_of}
use Rattle.sm_history.specs.Lawful.{IsJudged}
use Rattle.sm_history.specs.Repeating.{book_of, Repeats}
use Rattle.sm_history.specs.Segments.{sealed}
use Rattle.sm_history.specs.Steps.{AnswersSeal, Steps, entry_made}
use Rattle.sm_history.specs.Told.{told}
use Rattle.sm_history.proofs.Repeating.{changes_repeat}
use Rattle.sm_wire.specs.declared.item.Item.{Item}
use Rattle.sm_wire.specs.declared.item.Item.TheVariants as items
use Rattle.sm_wire.specs.declared.request.Request.TheVariants.{Hello, Change, Seal}
use Rattle.sm_wire.specs.declared.kind.Kind.TheVariants.{Script}
use Rattle.sm_wire.specs.Items.{items_of}
use Rattle.sm_wire.specs.Recording.{AsksEvent, IsRecord, move_line}
use Rattle.sm_wire.specs.Replies.{policy_refused_text, told_text}
use Rattle.sm_wire.specs.Texts.{Texts}
use Rattle.sm_engine.specs.Running.{Runs, Served, never}
use Rattle.sm_script.specs.Answering.{AnswersNow, AnswersRequest, AnswersTexts, Recorded, ScriptAnswers}
use Rattle.sm_script.specs.Answering.{script_held_limit, the_administrator}
use Rattle.sm_script.specs.Repeating.{LacksMemory, RepeatsScript, RunsAgain, RunsShort, SealsChanges}

-- ---- what is told

told_done : (event : Event) (outcome : Outcome) → told event (Done outcome) ≡ Done outcome
told_done (Get name) outcome = refl
told_done _ outcome = refl

told_memory : (event : Event) → told event (Refused Memory) ≡ Refused Memory
told_memory (Get name) = refl
told_memory _ = refl

-- ---- one move

-- A move is answered as it was, and leads to this history; or an allocation failed.
abbrev Again : ℕ → History → List ℕ → List ℕ → Recorded → Type 0
Again more next expected line new = ((line ≡ expected) × (new.book ≡ book_of more next)) ⊎ LacksMemory line

short_of : (rules contexts : List ℕ) (policy : Policy) (fault : PolicyFault) (line : List ℕ)
    → prepared rules contexts ≡ Ok policy → Fails is_memory fault (prepared rules contexts)
    → line ≡ policy_refused_text fault → LacksMemory line
short_of rules contexts policy NoMemory line reads fails written = inr written
short_of rules contexts policy _ line reads fails written = absurd (cc (sym reads ∙ fails))

same_policy : (rules contexts : List ℕ) (one other : Policy) → prepared rules contexts ≡ Ok one
    → prepared rules contexts ≡ Ok other → one ≡ other
same_policy rules contexts one other reads reads_too = cc (sym reads ∙ reads_too)

module _ (places more : ℕ) (h : History) (le : places ≤ more) (old new : Recorded) (same : old.book ≡ book_of more h)
  where
    answered : (e : Entry) (reply : Reply) (noted : List Record) → IsJudged places e h
        → AnswersNow old e.by e.event reply noted new → Repeats (book_of more h) e reply new.book
    answered e reply noted judged now =
        changes_repeat places more e h reply new.book le judged
        (subst (λ (b : Book). Steps b e.by (turn_of b.history e.by) e.event reply new.book) same now.answers)

    line_of : (e : Entry) (reply : Reply) (line : List ℕ) → Repeats (book_of more h) e reply new.book
        → line ≡ told_text (told e.event reply) → Again more (entered e h) (told_text (Done e.outcome)) line new
    line_of e reply line repeats written =
        ⊎_elim
        (λ short. inr (inl (written ∙ ap (λ (r : Reply). told_text (told e.event r)) short.0
        ∙ ap told_text (told_memory e.event))))
        (λ done. inl (
          written ∙ ap (λ (r : Reply). told_text (told e.event r)) done.0
              ∙ ap told_text (told_done e.event e.outcome),
          done.1,
        ))
        repeats

    now_again : (e : Entry) (reply : Reply) (noted : List Record) (line : List ℕ) → IsJudged places e h
        → AnswersNow old e.by e.event reply noted new → line ≡ told_text (told e.event reply)
        → Again more (entered e h) (told_text (Done e.outcome)) line new
    now_again e reply noted line judged now written = line_of e reply line (answered e reply noted judged now) written

    hello_again : (turn : ℕ) (who : Identity) (outcome : Outcome) (line lines : List ℕ)
        → IsJudged places (entry_made Manager turn (Connect who) outcome) h
        → AnswersRequest old (Hello who) line lines new
        → Again more (entered (entry_made Manager turn (Connect who) outcome) h) (told_text (Done outcome)) line new
    hello_again turn who outcome line lines judged answers = elim answers [
      | inl a ↦ now_again (entry_made Manager turn (Connect who) outcome) a.0 a.1 line judged a.2 a.3
      | inr (inl b) ↦ absurd (cc b.0)
      | inr (inr c) ↦ absurd c.0
    ]

    change_again : (c : ClientId) (turn : ℕ) (event : Event) (outcome : Outcome) (line lines : List ℕ)
        → IsJudged places (entry_made (Client c) turn event outcome) h
        → AnswersRequest old (Change (Some c) event) line lines new
        → Again more (entered (entry_made (Client c) turn event outcome) h) (told_text (Done outcome)) line new
    change_again c turn event outcome line lines judged answers = elim answers [
      | inl a ↦ now_again (entry_made (Client c) turn event outcome) a.0 a.1 line judged a.2 a.3
      | inr (inl b) ↦ absurd (cc b.0)
      | inr (inr d) ↦ absurd d.0
    ]

    texts_again : (a : AdminId) (turn expected : ℕ) (policy : Policy) (outcome : Outcome) (texts : Texts)
        (line lines : List ℕ) → IsJudged places (entry_made (Admin a) turn (Reload expected policy) outcome) h
        → a.0 ≡ 1 → texts.expected ≡ expected → prepared texts.rules texts.contexts ≡ Ok policy
        → AnswersTexts old texts line lines new
        → Again more (entered (entry_made (Admin a) turn (Reload expected policy) outcome) h) (told_text (Done outcome))
        line new
    texts_again a turn expected policy outcome texts line lines judged one expects reads answers = elim answers [
      | inl r ↦
          let event : Reload texts.expected r.policy ≡ Reload expected policy =
          rw (expects, same_policy texts.rules texts.contexts r.policy policy r.reads reads) refl in
          let by : Admin the_administrator ≡ Admin a = ap (λ (n : ℕ). Admin (record { 0 = n })) (sym one) in
          let now = subst (λ (x : By). AnswersNow old x (Reload texts.expected r.policy) r.reply r.noted new) by r.judged in
          let here = subst (λ (x : Event). AnswersNow old (Admin a) x r.reply r.noted new) event now in
          now_again (entry_made (Admin a) turn (Reload expected policy) outcome) r.reply r.noted line judged here
          (r.written ∙ ap (λ (x : Event). told_text (told x r.reply)) event)
      | inr r ↦ inr (short_of texts.rules texts.contexts policy r.fault line reads r.fails r.written)
    ]

    event_again : (by : By) (turn : ℕ) (event : Event) (outcome : Outcome) (item : Item) (line lines : List ℕ)
        → IsJudged places (entry_made by turn event outcome) h → AsksEvent by event item
        → ScriptAnswers old item line lines new
        → Again more (entered (entry_made by turn event outcome) h) (told_text (Done outcome)) line new
    event_again Manager turn (Connect who) outcome item line lines judged asks answers =
        hello_again turn who outcome line lines judged
        (subst (λ (i : Item). ScriptAnswers old i line lines new) asks answers)
    event_again Manager turn _ outcome item line lines judged asks answers = absurd asks
    event_again (Client c) turn event outcome item line lines judged asks answers =
        change_again c turn event outcome line lines judged
        (subst (λ (i : Item). ScriptAnswers old i line lines new) asks answers)
    event_again (Admin a) turn (Reload expected policy) outcome item line lines judged asks answers =
        let files = asks.1 in
        texts_again a turn expected policy outcome files.texts line lines judged asks.0 files.expects files.reads
        (subst (λ (i : Item). ScriptAnswers old i line lines new) files.is answers)
    event_again (Admin a) turn _ outcome item line lines judged asks answers = absurd asks.1

    sealed_again : (reply : Reply) (line : List ℕ) → h.entries ≢ [] → AnswersSeal (book_of more h) reply new.book
        → line ≡ told_text reply → Again more (sealed h) (told_text (Sealed h.number (length_of h))) line new
    sealed_again reply line some seals written = elim seals [
      | inl done ↦ inl (written ∙ ap told_text done.0, done.2)
      | inr kept ↦ ⊎_elim
          (λ short. inr (inl (written ∙ ap told_text (kept.1 ∙ ap Refused short))))
          (λ empty. absurd (some empty.1))
          kept.2.1
    ]

    seal_again : (item : Item) (line lines : List ℕ) → h.entries ≢ [] → item ≡ items.Asked Seal
        → ScriptAnswers old item line lines new
        → Again more (sealed h) (told_text (Sealed h.number (length_of h))) line new
    seal_again item line lines some asks answers =
        let here : AnswersRequest old Seal line lines new =
        subst (λ (i : Item). ScriptAnswers old i line lines new) asks answers in elim here [
          | inl a ↦
              sealed_again a.0 line some
              (subst (λ (b : Book). AnswersSeal b a.0 new.book) same a.2.0.answers) a.3
          | inr (inl b) ↦ absurd (cc b.0)
          | inr (inr d) ↦ absurd d.0
        ]

-- ---- all moves

-- The run of items and one more.
record SplitRun (first last : Recorded) (earlier : List Item) (item : Item) (said audit : List ℕ) : Type 0 where
  middle : Recorded
  before : List ℕ
  before_audit : List ℕ
  line : List ℕ
  lines : List ℕ
  runs : Runs ScriptAnswers first earlier before before_audit middle
  answers : ScriptAnswers middle item line lines last
  said_is : said ≡ before ++ line

split_run : (first last : Recorded) (earlier : List Item) (item : Item) (said audit : List ℕ)
    → Runs ScriptAnswers first (earlier ++ item ∷ []) said audit last → SplitRun first last earlier item said audit
split_run first last [] item said audit runs =
    let end : runs.0 ≡ last = runs.6.0 in
    record {
      middle = first;
      before = [];
      before_audit = [];
      line = runs.1;
      lines = runs.2;
      runs = (refl, refl, refl);
      answers = subst (λ (t : Recorded). ScriptAnswers first item runs.1 runs.2 t) end runs.5;
      said_is = runs.7 ∙ (ap (λ (rest : List ℕ). runs.1 ++ rest) runs.6.1 ∙ append-nil runs.1);
    }
split_run first last (i ∷ earlier) item said audit runs =
    let rest = split_run runs.0 last earlier item runs.3 runs.4 runs.6 in
    record {
      middle = rest.middle;
      before = runs.1 ++ rest.before;
      before_audit = runs.2 ++ rest.before_audit;
      line = rest.line;
      lines = rest.lines;
      runs = (runs.0, runs.1, runs.2, rest.before, rest.before_audit, runs.5, rest.runs, refl, refl);
      answers = rest.answers;
      said_is = runs.7 ∙ (ap (λ (more : List ℕ). runs.1 ++ more) rest.said_is
          ∙ sym (append_assoc runs.1 rest.before rest.line));
    }

-- One more move after those before it.
grown : (more : ℕ) (h : History) (ms : List Move) (m : Move) (lines said told before line : List ℕ)
    (middle last : Recorded) → lines ≡ told ++ move_line (gone_on h ms) m → said ≡ before ++ line
    → (RunsAgain more h ms told before middle ⊎ RunsShort told before)
    → (middle.book ≡ book_of more (gone_on h ms)
    → Again more (gone_on h (m ∷ ms)) (move_line (gone_on h ms) m) line last)
    → RunsAgain more h (m ∷ ms) lines said last ⊎ RunsShort lines said
grown more h ms m lines said told before line middle last lines_are said_is earlier next = elim earlier [
  | inl again ↦ elim (next again.same_history) [
    | inl done ↦ inl (record {
      same_lines = said_is ∙ (ap (λ (x : List ℕ). x ++ line) again.same_lines
          ∙ (ap (λ (x : List ℕ). told ++ x) done.0 ∙ sym lines_are));
      same_history = done.1;
    })
    | inr short ↦ inr (record {
      front = told;
      rest = move_line (gone_on h ms) m;
      short = line;
      others = [];
      lacks = short;
      lines_are = lines_are;
      said_is = said_is ∙ (ap (λ (x : List ℕ). x ++ line) again.same_lines
          ∙ ap (λ (x : List ℕ). told ++ x) (sym (append-nil line)));
    })
  ]
  | inr s ↦ inr (record {
    front = s.front;
    rest = s.rest ++ move_line (gone_on h ms) m;
    short = s.short;
    others = s.others ++ line;
    lacks = s.lacks;
    lines_are = lines_are ∙ (ap (λ (x : List ℕ). x ++ move_line (gone_on h ms) m) s.lines_are
        ∙ append_assoc s.front s.rest (move_line (gone_on h ms) m));
    said_is = said_is ∙ (ap (λ (x : List ℕ). x ++ line) s.said_is
        ∙ (append_assoc s.front (s.short ++ s.others) line
        ∙ ap (λ (x : List ℕ). s.front ++ x) (append_assoc s.short s.others line)));
  })
]

pub runs_again : (places more : ℕ) (h : History) (ms : List Move) (is : List Item) (lines said audit : List ℕ)
    (first last : Recorded) → places ≤ more → AreJudged places h ms → SealsChanges h ms → IsRecord h ms is lines
    → first.book ≡ book_of more h → Runs ScriptAnswers first is said audit last
    → RunsAgain more h ms lines said last ⊎ RunsShort lines said
runs_again places more h [] is lines said audit first last le judged seals rec same runs =
    let none = subst (λ (x : List Item). Runs ScriptAnswers first x said audit last) rec.0 runs in
    inl (record {
      same_lines = none.1 ∙ sym rec.1;
      same_history = ap (λ (x : Recorded). x.book) (sym none.0) ∙ same;
    })
runs_again places more h (Made e ∷ ms) is lines said audit first last le judged seals rec same runs =
    let split = split_run first last rec.0 rec.1 said audit
    (subst (λ (x : List Item). Runs ScriptAnswers first x said audit last) rec.5 runs) in
    grown more h ms (Made e) lines said rec.2 split.before split.line split.middle last rec.6 split.said_is
    (runs_again places more h ms rec.0 rec.2 split.before split.before_audit first split.middle le judged.1 seals rec.3
    same split.runs)
    (λ here. event_again places more (gone_on h ms) le split.middle last here e.by e.turn e.event e.outcome rec.1
    split.line split.lines judged.0 rec.4 split.answers)
runs_again places more h (Seals ∷ ms) is lines said audit first last le judged seals rec same runs =
    let split = split_run first last rec.0 rec.1 said audit
    (subst (λ (x : List Item). Runs ScriptAnswers first x said audit last) rec.5 runs) in
    grown more h ms Seals lines said rec.2 split.before split.line split.middle last rec.6 split.said_is
    (runs_again places more h ms rec.0 rec.2 split.before split.before_audit first split.middle le judged seals.1 rec.3
    same split.runs)
    (λ here. seal_again places more (gone_on h ms) le split.middle last here rec.1 split.line split.lines seals.0 rec.4
    split.answers)

pub scripts_repeat : (places more bound reads : ℕ) (h : History) (ms : List Move) (lines : List ℕ)
    (r r_new w w_new a a_new : Option (List ℕ)) (first last : Recorded) (done : Unit {0}) → places ≤ more
    → AreJudged places h ms → SealsChanges h ms → first.book ≡ book_of more h
    → (s : Served Script ScriptAnswers never script_held_limit (Ok done) bound reads first r r_new w w_new a a_new last)
    → IsRecord h ms (items_of Script s.bytes) lines → RepeatsScript more h ms lines s.bytes w w_new last
scripts_repeat places more bound reads h ms lines r r_new w w_new a a_new first last done le judged seals same s rec =
    let ends = s.written in
    let wrote = ends.before.wrote in
    record {
      said = wrote.replies;
      w_middle = ends.w_middle;
      wrote = wrote.wrote;
      ended = ends.ended;
      again = runs_again places more h ms (items_of Script s.bytes) lines wrote.replies wrote.lines first last le judged
          seals rec same wrote.runs;
    }
