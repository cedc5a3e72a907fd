-- What a policy source declares and what its sets denote, by names.
use Rattle.std.specs.Prelude.{◌≡◌, Bool, false, not, ◌&&◌, ◌||◌, if◌then◌else◌, List, [], ◌∷◌, filter, Option, Some}
use Rattle.std.specs.Prelude.{None}
use Rattle.std.specs.List.{list_any, list_all, filter_map}
use Rattle.std.specs.Str.{bytes_eq}
use Rattle.sm_values.specs.Names.{contains}
use Rattle.sm_ruletext.specs.Items.{Set}
use Rattle.sm_ruletext.specs.declared.statement.What.{What}
use Rattle.sm_ruletext.specs.declared.statement.What.TheVariants.{Attribute, Declared, Member, Rule, Permissive}
use Rattle.sm_ruletext.specs.declared.statement.Statement.{Statement}
use Rattle.sm_types.specs.Names.{Name}

-- A policy is here the statements of its source.
abbrev pub Policy : Type 0
Policy = List Statement

-- ---- types and attributes

-- A statement's content declares type t.
abbrev pub is_type_named : Name → What → Bool
is_type_named t (Declared n names) = bytes_eq n t
is_type_named t (Attribute n) = false
is_type_named t (Member n names) = false
is_type_named t (Rule kind r) = false
is_type_named t (Permissive n) = false

-- A statement's content gives type t the attribute a.
abbrev pub gives_attribute : Name → Name → What → Bool
gives_attribute t a (Declared n names) = bytes_eq n t && contains names a
gives_attribute t a (Member n names) = bytes_eq n t && contains names a
gives_attribute t a (Attribute n) = false
gives_attribute t a (Rule kind r) = false
gives_attribute t a (Permissive n) = false

-- Some statement declares the type.
abbrev pub declares : Policy → Name → Bool
declares policy t = list_any (λ s. is_type_named t s.what) policy

-- Some statement, anywhere in the source, gives the type the attribute.
abbrev pub has_attribute : Policy → Name → Name → Bool
has_attribute policy t a = list_any (λ s. gives_attribute t a s.what) policy

-- A word names the type, or an attribute that the type has.
abbrev pub is_named : Policy → Name → Name → Bool
is_named policy t word = bytes_eq word t || has_attribute policy t word

-- ---- sets

-- A set chooses a type: a positive item names it and no `-` item does; `~` negates that.
unfoldable pub chosen : Policy → Set → Name → Bool
chosen policy set t =
    let among = (set.all || list_any (is_named policy t) set.plus) && not (list_any (is_named policy t) set.minus) in
    if set.complement then not among else among

-- A set is written as one word.
pub record IsWord (word : Name) (set : Set) : Type 0 where
  pub all : set.all ≡ false
  pub complement : set.complement ≡ false
  pub plus : set.plus ≡ word ∷ []
  pub minus : set.minus ≡ []

-- A set denotes declared types only.
abbrev pub in_set : Policy → Set → Name → Bool
in_set policy set t = declares policy t && chosen policy set t

-- This is the type that a statement's content declares.
abbrev pub type_of : What → Option Name
type_of (Declared n names) = Some n
type_of (Attribute n) = None
type_of (Member n names) = None
type_of (Rule kind r) = None
type_of (Permissive n) = None

-- These are the declared types, in the order of their declaration.
abbrev pub types : Policy → List Name
types policy = filter_map (λ s. type_of s.what) policy

-- These are the types that a set denotes, in the order of their declaration.
abbrev pub denoted : Policy → Set → List Name
denoted policy set = filter (in_set policy set) (types policy)

-- ---- names that are declared

-- This is the attribute that a statement's content declares.
abbrev pub attribute_of : What → Option Name
attribute_of (Attribute n) = Some n
attribute_of (Declared n names) = None
attribute_of (Member n names) = None
attribute_of (Rule kind r) = None
attribute_of (Permissive n) = None

-- These are the declared attributes, in the order of their declaration.
abbrev pub attributes : Policy → List Name
attributes policy = filter_map (λ s. attribute_of s.what) policy

-- A word is declared, as a type or as an attribute.
abbrev pub knows : Policy → Name → Bool
knows policy word = list_any (bytes_eq word) (types policy) || list_any (bytes_eq word) (attributes policy)

-- Every word of the set is declared.
abbrev pub all_known : Policy → Set → Bool
all_known policy set = list_all (knows policy) set.plus && list_all (knows policy) set.minus
