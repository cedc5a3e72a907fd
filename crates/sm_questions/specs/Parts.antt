-- The parts of the answer to `svcmgr diff`, each for the types or keys that it goes through.
use Rattle.std.specs.Prelude.{ℕ, List, [], ◌∷◌}
use Rattle.std.specs.List.{flat_map}
use Rattle.sm_types.specs.Denoting.{types}
use Rattle.sm_policy.specs.Policy.{Policy}
use Rattle.sm_questions.specs.declared.part.Part.{Part}
use Rattle.sm_questions.specs.declared.part.Part.TheVariants.{Lost, Gained, Relabelled, Added, Ceased, Became}
use Rattle.sm_questions.specs.Differences.{lost_source, turned_type}
use Rattle.sm_questions.specs.Keys.{keys_of}
use Rattle.sm_questions.specs.Relabelled.{changed, added}
use Rattle.sm_questions.specs.TypeNumbers.{AreNumbersIn}
use Rattle.sm_questions.specs.declared.type_numbers.TypeNumbers.{TypeNumbers}

-- These are the types or keys that a part goes through.
abbrev pub names_in : Part → Policy → Policy → List (List ℕ)
names_in Lost old new = types old.statements
names_in Gained old new = types new.statements
names_in Relabelled old new = keys_of old
names_in Added old new = keys_of new
names_in Ceased old new = types old.statements
names_in Became old new = types new.statements

-- These are the lines of a part for a type or a key.
abbrev pub lines_of : Part → Policy → Policy → List ℕ → List ℕ
lines_of Lost old new name = lost_source 45 old new name
lines_of Gained old new name = lost_source 43 new old name
lines_of Relabelled old new name = changed old new name
lines_of Added old new name = added old new name
lines_of Ceased old new name = turned_type 45 old new name
lines_of Became old new name = turned_type 43 new old name

-- These are the lines of a part.
unfoldable pub part_lines : Policy → Policy → Part → List ℕ
part_lines old new part = flat_map (lines_of part old new) (names_in part old new)

-- These are the parts, in their order.
abbrev pub all_parts : List Part
all_parts = Lost ∷ Gained ∷ Relabelled ∷ Added ∷ Ceased ∷ Became ∷ []

-- These are the parts that compare no accesses.
abbrev pub other_parts : List Part
other_parts = Relabelled ∷ Added ∷ Ceased ∷ Became ∷ []

-- A part that compares accesses has the numbers in the other policy of the types that it goes through.
abbrev pub AreNumbers : Part → Policy → Policy → TypeNumbers → Type 0
AreNumbers Lost old new numbers = AreNumbersIn old new numbers
AreNumbers Gained old new numbers = AreNumbersIn new old numbers
AreNumbers Relabelled old new numbers = Unit {0}
AreNumbers Added old new numbers = Unit {0}
AreNumbers Ceased old new numbers = Unit {0}
AreNumbers Became old new numbers = Unit {0}
