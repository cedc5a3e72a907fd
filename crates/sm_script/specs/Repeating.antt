-- A record of a history, run again as a script.
use Rattle.std.specs.Prelude.{ℕ, ◌≡◌, ◌≢◌, ◌≤◌, ◌⊎◌, List, [], ◌∷◌, ◌++◌, Option, Ok}
use Rattle.std.specs.Io.KnownBytes.{Appends}
use Rattle.sm_policy.specs.declared.fault.PolicyFault.TheVariants.{Memory as NoMemory}
use Rattle.sm_history.specs.declared.refusal.Refusal.TheVariants.{Memory}
use Rattle.sm_history.specs.declared.reply.Reply.TheVariants.{Refused}
use Rattle.sm_history.specs.Beginning.{Move, Made, Seals, gone_on, AreJudged}
use Rattle.sm_history.specs.Histories.{History}
use Rattle.sm_history.specs.Repeating.{book_of}
use Rattle.sm_wire.specs.declared.item.Item.{Item}
use Rattle.sm_wire.specs.declared.kind.Kind.TheVariants.{Script}
use Rattle.sm_wire.specs.Items.{items_of, rest_of}
use Rattle.sm_wire.specs.Recording.{IsRecord}
use Rattle.sm_wire.specs.Replies.{policy_refused_text, told_text}
use Rattle.sm_engine.specs.Running.{Runs, Served, ending_of, never}
use Rattle.sm_script.specs.Answering.{Recorded, ScriptAnswers, script_held_limit}

-- A segment is sealed only if it has changes.
abbrev pub SealsChanges : History → List Move → Type 0
SealsChanges h [] = Unit {0}
SealsChanges h (Made e ∷ ms) = SealsChanges h ms
SealsChanges h (Seals ∷ ms) = ((gone_on h ms).entries ≢ []) × SealsChanges h ms

-- A line says that an allocation failed.
abbrev pub LacksMemory : List ℕ → Type 0
LacksMemory line = (line ≡ told_text (Refused Memory)) ⊎ (line ≡ policy_refused_text NoMemory)

-- An allocation failed, and what was said before that is a front of these lines.
pub record RunsShort (lines said : List ℕ) : Type 0 where
  pub front : List ℕ
  pub rest : List ℕ
  pub short : List ℕ
  pub others : List ℕ
  pub lacks : LacksMemory short
  pub lines_are : lines ≡ front ++ rest
  pub said_is : said ≡ front ++ (short ++ others)

-- The lines are those of the record, and the history is the one that was recorded.
pub record RunsAgain (more : ℕ) (h : History) (ms : List Move) (lines said : List ℕ) (last : Recorded) : Type 0 where
  pub same_lines : said ≡ lines
  pub same_history : last.book ≡ book_of more (gone_on h ms)

-- The record of moves that lead on from a history is run as a script, from the same history, with at least as many slots:
-- it gives the lines of the record, and the same history; or an allocation failed.
abbrev pub RecordsRunAgain : Type 0
RecordsRunAgain = (places more : ℕ) (h : History) (ms : List Move) (items : List Item) (lines said audit : List ℕ)
    (first last : Recorded) → places ≤ more → AreJudged places h ms → SealsChanges h ms → IsRecord h ms items lines
    → first.book ≡ book_of more h → Runs ScriptAnswers first items said audit last
    → RunsAgain more h ms lines said last ⊎ RunsShort lines said

-- A script whose items are the record of moves was run to its end, and wrote this before the ending for a cut line or
-- file. These are the lines of the record, and the history is the one that was recorded; or an allocation failed.
pub record RepeatsScript (more : ℕ) (h : History) (ms : List Move) (lines bytes : List ℕ) (w w_new : Option (List ℕ))
    (last : Recorded) : Type 0 where
  pub said : List ℕ
  pub w_middle : Option (List ℕ)
  pub wrote : Appends w w_middle said
  pub ended : Appends w_middle w_new (ending_of (rest_of Script bytes))
  pub again : RunsAgain more h ms lines said last ⊎ RunsShort lines said

-- So it is for each script that `run_script` has run to its end.
abbrev pub ScriptsRepeat : Type 0
ScriptsRepeat = (places more bound reads : ℕ) (h : History) (ms : List Move) (lines : List ℕ)
    (r r_new w w_new a a_new : Option (List ℕ)) (first last : Recorded) (done : Unit {0}) → places ≤ more
    → AreJudged places h ms → SealsChanges h ms → first.book ≡ book_of more h
    → (s : Served Script ScriptAnswers never script_held_limit (Ok done) bound reads first r r_new w w_new a a_new last)
    → IsRecord h ms (items_of Script s.bytes) lines → RepeatsScript more h ms lines s.bytes w w_new last
