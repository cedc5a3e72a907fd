use Rattle.std.proofs.Common.{◌≡◌, take}
use Rattle.std.specs.List.{flat_map}
use Rattle.sm_questions.specs.Shown.{shown_statement}
use Rattle.sm_questions.proofs.showing_all.shown_statements.Given as goal

abbrev pub invariant-loop-i : goal.invariant-loop-i
invariant-loop-i l = l.shown.items ≡ flat_map (shown_statement l.path l.text) (take l.i l.numbers.keys)
