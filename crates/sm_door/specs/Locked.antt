-- How contracts see the manager that a door's lock guards, and one step of it.
use Rattle.std.specs.Prelude.{◌≡◌, List}
use Rattle.sm_values.specs.declared.identity.Identity.{Identity}
use Rattle.sm_core.specs.Managed.{ring_after}
use Rattle.sm_history.specs.Books.{Book}
use Rattle.sm_history.specs.Histories.{turn_of}
use Rattle.sm_history.specs.Steps.{Steps}
use Rattle.sm_history.specs.declared.by.By.TheVariants.{Manager}
use Rattle.sm_history.specs.declared.event.Event.TheVariants.{Connect}
use Rattle.sm_history.specs.declared.records.Record.{Record}
use Rattle.sm_history.specs.declared.reply.Reply.{Reply}

-- It has the manager's slots and history, and its newest audit records, oldest first.
pub record Locked : Type 0 where
  pub book : Book
  pub ring : List Record

-- The manager made one step at its own turn, which is to connect a process, with this answer.
pub record Connects (old : Locked) (who : Identity) (reply : Reply) (new : Locked) : Type 0 where
  pub steps : Steps old.book Manager (turn_of old.book.history Manager) (Connect who) reply new.book
  pub ring : new.ring
      ≡ ring_after old.ring old.book Manager (turn_of old.book.history Manager) (Connect who) reply
