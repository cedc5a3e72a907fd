-- What `svcmgr types` writes.
use Rattle.std.specs.Prelude.{Bool, true, false, if◌then◌else◌, List, [], ◌++◌, Option, Some, None, codes}
use Rattle.std.specs.List.{flat_map}
use Rattle.std.specs.Str.{bytes_eq}
use Rattle.sm_types.specs.Denoting.{Policy, attributes, has_attribute, types}
use Rattle.sm_types.specs.Names.{Name}

-- This is a name behind a space, if the type has the attribute.
abbrev pub member : Bool → Name → Name
member true name = codes " " ++ name
member false name = []

-- This is the attribute, if the type has it.
abbrev pub attribute_word : Policy → Name → Name → Name
attribute_word policy t a = member (has_attribute policy t a) a

-- This is the type, if it has the attribute.
abbrev pub type_word : Policy → Name → Name → Name
type_word policy a t = member (has_attribute policy t a) t

-- This is the line of a type: its attributes, in the order of their declaration.
abbrev pub type_line : Policy → Name → Name
type_line policy t = codes "type " ++ t ++ flat_map (attribute_word policy t) (attributes policy) ++ codes "\n"

-- This is the line of an attribute: the types that have it, in the order of their declaration.
abbrev pub attribute_line : Policy → Name → Name
attribute_line policy a = codes "attribute " ++ a ++ flat_map (type_word policy a) (types policy) ++ codes "\n"

-- A name is asked for: each is without a word.
abbrev pub is_wanted : Option Name → Name → Bool
is_wanted None name = true
is_wanted (Some word) name = bytes_eq word name

-- This is the line of a type, if it is asked for.
abbrev pub wanted_type : Policy → Option Name → Name → Name
wanted_type policy word t = if is_wanted word t then type_line policy t else []

-- This is the line of an attribute, if it is asked for.
abbrev pub wanted_attribute : Policy → Option Name → Name → Name
wanted_attribute policy word a = if is_wanted word a then attribute_line policy a else []

-- These are the lines of the types and then of the attributes that are asked for.
unfoldable pub type_lines : Policy → Option Name → Name
type_lines policy word =
    flat_map (wanted_type policy word) (types policy) ++ flat_map (wanted_attribute policy word) (attributes policy)
