-- A record of a history: the items of a script that asks for its changes and seals, and the lines that answer them.
use Rattle.std.specs.Prelude.{ℕ, ◌≡◌, List, [], ◌∷◌, ◌++◌, Some, Ok}
use Rattle.sm_policy.specs.Policy.{Policy}
use Rattle.sm_policy.specs.Preparing.{prepared}
use Rattle.sm_history.specs.declared.by.By.{By, TheVariants.Manager, TheVariants.Client, TheVariants.Admin}
use Rattle.sm_history.specs.declared.event.Event.{Event, TheVariants.Connect, TheVariants.Reload}
use Rattle.sm_history.specs.declared.reply.Reply.TheVariants.{Done, Sealed}
use Rattle.sm_history.specs.Beginning.{Move, Made, Seals, gone_on}
use Rattle.sm_history.specs.Histories.{History, length_of}
use Rattle.sm_wire.specs.declared.item.Item.{Item}
use Rattle.sm_wire.specs.declared.item.Item.TheVariants.{Asked, Policy as PolicyItem}
use Rattle.sm_wire.specs.declared.kind.Kind.TheVariants.{Script}
use Rattle.sm_wire.specs.declared.request.Request.TheVariants.{Hello, Change, Seal}
use Rattle.sm_wire.specs.Items.{items_of}
use Rattle.sm_wire.specs.Replies.{told_text}
use Rattle.sm_wire.specs.Texts.{Texts}

-- The files of a `reload` in a script are those of a policy.
pub record HasFiles (expected : ℕ) (policy : Policy) (item : Item) : Type 0 where
  pub texts : Texts
  pub is : item ≡ PolicyItem texts
  pub expects : texts.expected ≡ expected
  pub reads : prepared texts.rules texts.contexts ≡ Ok policy

-- An item asks for an event of the manager: for a connect.
abbrev pub AsksManager : Event → Item → Type 0
AsksManager (Connect who) item = item ≡ Asked (Hello who)
AsksManager _ item = ⊥

-- An item asks for an event of the administrator: for a reload.
abbrev pub AsksAdmin : Event → Item → Type 0
AsksAdmin (Reload expected policy) item = HasFiles expected policy item
AsksAdmin _ item = ⊥

-- An item of a script asks for an event of this actor. The administrator of a script has the number 1.
abbrev pub AsksEvent : By → Event → Item → Type 0
AsksEvent Manager event item = AsksManager event item
AsksEvent (Client c) event item = item ≡ Asked (Change (Some c) event)
AsksEvent (Admin a) event item = (a.0 ≡ 1) × AsksAdmin event item

-- An item asks for a move of a history.
abbrev pub AsksMove : Move → Item → Type 0
AsksMove (Made e) item = AsksEvent e.by e.event item
AsksMove Seals item = item ≡ Asked Seal

-- This is the line that answers a move of this history.
abbrev pub move_line : History → Move → List ℕ
move_line h (Made e) = told_text (Done e.outcome)
move_line h Seals = told_text (Sealed h.number (length_of h))

-- The moves that lead on from a history, newest first, have this record: an item for each, oldest first, and the lines
-- that answer them.
abbrev pub IsRecord : History → List Move → List Item → List ℕ → Type 0
IsRecord h [] items lines = (items ≡ []) × (lines ≡ [])
IsRecord h (m ∷ ms) items lines = (earlier : List Item) × (item : Item) × (said : List ℕ) × IsRecord h ms earlier said
    × AsksMove m item × (items ≡ earlier ++ item ∷ []) × (lines ≡ said ++ move_line (gone_on h ms) m)

-- These bytes of a script are these items, whatever follows.
abbrev pub AreItems : List ℕ → List Item → Type 0
AreItems bytes items = (rest : List ℕ) → items_of Script (bytes ++ rest) ≡ items ++ items_of Script rest
