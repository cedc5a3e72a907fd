-- Rows in any order, and the order of their names.
use Rattle.std.specs.Prelude.{ℕ, ◌≡◌, ◌==◌, false, List, [], length, map, nat_lt, slice_index_or, if◌then◌else◌}
use Rattle.std.specs.List.{count_by}
use Rattle.sm_history.specs.declared.named_row.NamedRow.{NamedRow}

-- Rows, and how many there is room for.
pub record RowsWithRoom : Type 0 where
  pub items : List NamedRow
  pub capacity : ℕ

-- This stands for the row of an index that has none.
abbrev pub no_row : NamedRow
no_row = record {
  name = [];
  service = record {
    node = record { owner = record { 0 = 0 }; object = 0 };
    adder = 0;
    allow_isolated = false;
    dump = 0;
  };
}

-- This is the row with an index.
abbrev pub row_at : List NamedRow → ℕ → NamedRow
row_at rows i = slice_index_or rows i no_row

-- These are the rows with some indices.
abbrev pub rows_at : List NamedRow → List ℕ → List NamedRow
rows_at rows order = map (row_at rows) order

-- This is how often an index is there.
abbrev pub times : ℕ → List ℕ → ℕ
times j order = count_by (λ i. i == j) order

-- Each index below n is there once, and no other.
pub record IsOrder (n : ℕ) (order : List ℕ) : Type 0 where
  pub long : length order ≡ n
  pub once : (j : ℕ) → times j order ≡ (if nat_lt j n then 1 else 0)

-- This is an index after one was replaced.
abbrev pub renamed : ℕ → ℕ → ℕ → ℕ
renamed from to i = if i == from then to else i
