-- Relations between rules as tables of marks: a row for each rule, with a mark for each rule that it is related to.
use Rattle.std.specs.Prelude.{◌≡◌, ℕ, ◌<◌, true, false, Bool, ◌&&◌, ◌||◌, List, [], length, map, slice_index_or}
use Rattle.std.specs.List.{zip}

-- the first is related to the second
abbrev pub IsRelated : List (List Bool) → ℕ → ℕ → Type 0
IsRelated rows from to = slice_index_or (slice_index_or rows from []) to false ≡ true

-- as many rows as this, and as many marks in each
pub record IsSquare (size : ℕ) (rows : List (List Bool)) : Type 0 where
  pub rows_are : length rows ≡ size
  pub each : (from : ℕ) → from < size → length (slice_index_or rows from []) ≡ size

-- the marks of a relation among so many rules
pub record IsTableOf (size : ℕ) (Related : ℕ → ℕ → Type 0) (rows : List (List Bool)) : Type 0 where
  pub square : IsSquare size rows
  pub marked : (from to : ℕ) → IsRelated rows from to → Related from to
  pub all : (from to : ℕ) → Related from to → IsRelated rows from to

-- the relation leads from the first to the second, in one step or more
pub data Leads (rows : List (List Bool)) : ℕ → ℕ → Type 0 where
  AtOnce : (from to : ℕ) → IsRelated rows from to → Leads rows from to
  Onward : (from between to : ℕ) → IsRelated rows from between → Leads rows between to → Leads rows from to

-- a row, and the row of the rule between where that rule is in it
abbrev pub row_through : List Bool → List Bool → ℕ → List Bool
row_through row beyond between =
    map (λ marks. marks.0 || (slice_index_or row between false && marks.1)) (zip row beyond)

-- each row, and the row of the rule between where that rule is in it
abbrev pub rows_through : List (List Bool) → ℕ → List (List Bool)
rows_through rows between = map (λ row. row_through row (slice_index_or rows between []) between) rows
