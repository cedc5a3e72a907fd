-- The numbers of the types in the labels.
use Rattle.std.specs.Prelude.{◌≡◌, ℕ, List, Option, Some, map, position}
use Rattle.std.specs.Str.{bytes_eq}
use Rattle.sm_values.specs.Contexts.{type_of}
use Rattle.sm_types.specs.Names.{Name}
use Rattle.sm_contexts.specs.Reading.{Entry}

-- This is the number of the type in an entry's context, if the type is declared.
abbrev pub number_of : List Name → Entry → Option ℕ
number_of types e = position (bytes_eq (type_of e.context)) types

-- Each entry's number is that of its type.
pub record AreNumbered (types : List Name) (entries : List Entry) (numbers : List ℕ) : Type 0 where
  pub each : map (number_of types) entries ≡ map Some numbers
