-- The line on standard error of a program that ends without an answer.
use Rattle.std.specs.Prelude.{◌≡◌, ℕ, List, ◌++◌, codes}
use Rattle.sm_values.specs.declared.class.Class.{Class}
use Rattle.sm_values.specs.declared.perms.Perms.{Perms}
use Rattle.sm_values.specs.Messages.{access_words}
use Rattle.sm_history.specs.declared.denial.Denial.TheVariants.{Rule, App, Isolated}
use Rattle.sm_history.specs.declared.refusal.Refusal.{Refusal}
use Rattle.sm_history.specs.declared.refusal.Refusal.TheVariants as refusals
use Rattle.sm_engine.specs.declared.fault.Fault.{Fault}
use Rattle.sm_engine.specs.declared.fault.Fault.TheVariants as faults
use Rattle.sm_script.specs.declared.script_fault.ScriptFault.{ScriptFault}
use Rattle.sm_script.specs.declared.script_fault.ScriptFault.TheVariants.{Policy, Opening, Engine}
use Rattle.sm_engine.specs.declared.serve_fault.ServeFault.{ServeFault}
use Rattle.sm_engine.specs.declared.serve_fault.ServeFault.TheVariants as serving
use Rattle.sm_questions.specs.Checking.{refused_line}
use Rattle.sm_questions.specs.Words.{unknown_words}
use Rattle.sm_questions.specs.declared.unknown.Unknown.{Unknown}
use Rattle.sm_command.specs.declared.ending.Ending.{Ending}
use Rattle.sm_command.specs.declared.ending.Ending.TheVariants.{Memory, File, Lock, LogTooLarge, Refused, Script}
use Rattle.sm_command.specs.declared.ending.Ending.TheVariants.{Serve}

-- The line for a file has its path, and the words of the operating system.
abbrev pub TellsOfFile : List ℕ → List ℕ → Type 0
TellsOfFile path line = (words : List ℕ) × (line ≡ codes "fault: " ++ path ++ codes ": " ++ words ++ codes "\n")

-- The lock beside a socket has this path.
abbrev pub lock_of : List ℕ → List ℕ
lock_of path = path ++ codes ".lock"

-- This is the line for the files of a refused policy.
abbrev pub refused_files_line : List ℕ → List ℕ → List ℕ
refused_files_line rules contexts =
    codes "fault: " ++ rules ++ codes " " ++ contexts ++ codes ": policy refused\n"

-- This is the line for a failed allocation.
abbrev pub no_memory : List ℕ
no_memory = codes "fault: no memory\n"

-- This is the line for a fault of an engine.
abbrev pub fault_line : Fault → List ℕ
fault_line faults.ReadFault = codes "fault: a read failed\n"
fault_line faults.WriteFault = codes "fault: a write failed\n"
fault_line faults.TooManyReads = codes "fault: too many reads\n"
fault_line faults.LineTooLong = codes "fault: a line is too long\n"
fault_line faults.Memory = no_memory

-- This is the line for the rule that the manager lacks.
abbrev pub denied_line : List ℕ → List ℕ → Class → Perms → List ℕ
denied_line source target class perm = codes "open denied " ++ access_words source target class perm ++ codes "\n"

-- No opening has this line.
abbrev pub unopened_line : List ℕ
unopened_line = codes "fault: the manager was not opened\n"

-- This is the line for a refused opening.
abbrev pub opening_line : Refusal → List ℕ
opening_line (refusals.Denied (Rule source target class perm)) = denied_line source target class perm
opening_line (refusals.Denied (App uid)) = unopened_line
opening_line (refusals.Denied (Isolated uid)) = unopened_line
opening_line (refusals.Exception exception) = unopened_line
opening_line (refusals.Failed failure) = unopened_line
opening_line refusals.Dead = unopened_line
opening_line refusals.Empty = unopened_line
opening_line refusals.TooManyClients = unopened_line
opening_line (refusals.VersionMoved now) = unopened_line
opening_line refusals.JournalFull = unopened_line
opening_line refusals.NoSeat = unopened_line
opening_line refusals.Memory = no_memory

-- This is the line for a script that stopped.
abbrev pub script_line : ScriptFault → List ℕ
script_line (Policy fault) = refused_line fault
script_line (Opening refusal) = opening_line refusal
script_line (Engine fault) = fault_line fault

-- This is the line for a server that ended.
abbrev pub serve_line : ServeFault → List ℕ
serve_line serving.AcceptFault = codes "fault: a connection was not accepted\n"
serve_line serving.NoThread = codes "fault: a thread was not started\n"
serve_line serving.Memory = no_memory

-- This is the line for a word of a question that names nothing.
abbrev pub unknown_line : Unknown → List ℕ
unknown_line unknown = codes "fault: " ++ unknown_words unknown ++ codes "\n"

-- The line says why the program ended.
abbrev pub Tells : Ending → List ℕ → Type 0
Tells Memory line = line ≡ no_memory
Tells (File path error) line = TellsOfFile path.now line
Tells (Lock path error) line = TellsOfFile (lock_of path.now) line
Tells LogTooLarge line = line ≡ codes "fault: log: too large\n"
Tells (Refused rules contexts) line = line ≡ refused_files_line rules.now contexts.now
Tells (Script fault) line = line ≡ script_line fault
Tells (Serve fault) line = line ≡ serve_line fault
