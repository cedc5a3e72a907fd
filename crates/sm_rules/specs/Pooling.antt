-- The sets of the attributes in the pool of rows.
use Rattle.std.specs.Prelude.{◌≡◌, ℕ, ◌<◌, ◌≤◌, ◌+◌, ◌/◌, false, List, length}
use Rattle.sm_bits.specs.Bits.{has, row}
use Rattle.sm_types.specs.declared.table.Table.{Table}

-- There are sets of the first `count` attributes, each with the types that the table has in that attribute's row.
pub record HasMembersBefore (count : ℕ) (table : Table) (sets : List (List ℕ)) : Type 0 where
  pub all : length sets ≡ count
  pub room : (a : ℕ) → a < count → length (row sets a) ≡ length table.symbols.types / 64 + 1
  pub same : (a i : ℕ) → a < count → has (row sets a) i ≡ has (row table.members.items a) i
  pub past : (a i : ℕ) → a < count → length table.symbols.types ≤ i → has (row sets a) i ≡ false

-- There is a set for each attribute.
abbrev pub HasMembers : Table → List (List ℕ) → Type 0
HasMembers table sets = HasMembersBefore (length table.symbols.attributes) table sets
