use Rattle.sm_door.specs.Registries.{blank_book}
use Rattle.sm_thread_tests.proofs.tests.registries.numbers_tell_history_ids_apart.Given as goal

-- The registry that was just made.
abbrev pub ghosts-three_history_ids : goal.ghosts-three_history_ids
ghosts-three_history_ids g a = record { registry = a.unnamed.seen.book; opening = blank_book }
