-- What contracts see of a set.
use Rattle.std.specs.Prelude.{◌≡◌, ℕ, Bool, List}

-- A set, with the line of its statement: whether `*` is among its items, whether it begins with `~`, the names among
-- its items, and those after a `-`.
pub record Set : Type 0 where
  pub line : ℕ
  pub all : Bool
  pub complement : Bool
  pub plus : List (List ℕ)
  pub minus : List (List ℕ)

-- The items of a set: whether `*` is among them, and `self`; the names, and those after a `-`.
pub record Items : Type 0 where
  pub all : Bool
  pub to_self : Bool
  pub plus : List (List ℕ)
  pub minus : List (List ℕ)

-- What sets with the same items have in common.
pub record Parts : Type 0 where
  pub all : Bool
  pub complement : Bool
  pub plus : List (List ℕ)
  pub minus : List (List ℕ)

-- These are the parts of a set.
abbrev pub parts_of : Bool → Bool → List (List ℕ) → List (List ℕ) → Parts
parts_of all complement plus minus = record { all = all; complement = complement; plus = plus; minus = minus }

-- This is the set of these parts on a line.
abbrev pub set_with : ℕ → Parts → Set
set_with line parts = record {
  line = line;
  all = parts.all;
  complement = parts.complement;
  plus = parts.plus;
  minus = parts.minus;
}

-- The two sets have the same items.
pub record SameItems (a b : Set) : Type 0 where
  pub all : a.all ≡ b.all
  pub complement : a.complement ≡ b.complement
  pub plus : a.plus ≡ b.plus
  pub minus : a.minus ≡ b.minus
