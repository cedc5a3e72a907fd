-- Rows of bits for the members of attributes.
use Rattle.std.specs.Prelude.{◌≡◌, ℕ, false, ◌&&◌, ◌||◌, nat_eq, nat_lt, ◌<◌, ◌≤◌, ◌/◌, ◌+◌, List, length, Ok}
use Rattle.sm_bits.specs.Bits.{has, row}
use Rattle.sm_values.specs.Names.{contains}
use Rattle.sm_types.specs.Names.{Name, at, Distinct}
use Rattle.sm_types.specs.Denoting.{Policy, types, attributes, has_attribute}
use Rattle.sm_types.specs.Declaring.{symbols_of}
use Rattle.sm_types.specs.declared.TheConstants.{MOST_TYPES}
use Rattle.sm_types.specs.declared.symbols.Symbols.{Symbols}
use Rattle.sm_types.specs.declared.table.Table.{Table}

-- Type t was added to the row of each named attribute, and nothing else changed.
pub record Given (old new : List (List ℕ)) (attributes names : List Name) (t : ℕ) : Type 0 where
  pub count : length new ≡ length old
  pub room : (a : ℕ) → length (row new a) ≡ length (row old a)
  pub given : (a i : ℕ) → a < length attributes
      → has (row new a) i ≡ (has (row old a) i || (nat_eq i t && contains names (at attributes a)))

-- No type is there twice, and each attribute has a row with room for each type and no number past the types.
pub record Fits (members : List (List ℕ)) (symbols : Symbols) : Type 0 where
  pub distinct : Distinct symbols.types
  pub count : length members ≡ length symbols.attributes
  pub room : (a : ℕ) → a < length symbols.attributes → length (row members a) ≡ length symbols.types / 64 + 1
  pub past : (a i : ℕ) → a < length symbols.attributes → length symbols.types ≤ i → has (row members a) i ≡ false

-- A row has exactly all types.
pub record HasAll (symbols : Symbols) (row : List ℕ) : Type 0 where
  pub room : length row ≡ length symbols.types / 64 + 1
  pub full : (i : ℕ) → has row i ≡ nat_lt i (length symbols.types)

-- This is the invariant of every table.
pub record IsSound (table : Table) : Type 0 where
  pub few : length table.symbols.types ≤ MOST_TYPES
  pub fits : Fits table.members.items table.symbols
  pub all : HasAll table.symbols table.all

-- The rows say which type has which attribute in the policy.
pub record MembersOf (policy : Policy) (symbols : Symbols) (members : List (List ℕ)) : Type 0 where
  pub fits : Fits members symbols
  pub says : (a i : ℕ) → a < length symbols.attributes → i < length symbols.types
      → has (row members a) i ≡ has_attribute policy (at symbols.types i) (at symbols.attributes a)

-- The table is that of the policy, in which no declaration and no membership is refused.
pub record IsOf (policy : Policy) (table : Table) : Type 0 where
  pub accepted : symbols_of policy ≡ Ok table.symbols
  pub types : table.symbols.types ≡ types policy
  pub attributes : table.symbols.attributes ≡ attributes policy
  pub rows : MembersOf policy table.symbols table.members.items
