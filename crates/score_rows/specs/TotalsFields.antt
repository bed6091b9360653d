-- What the fields of totals stand for.
use Rattle.std.specs.Prelude.{◌≡◌, ℕ, ◌≤◌, ℤ, ◌<ℤ◌, Some, List, length, map, slice_get}
use Rattle.score_numbers.specs.Packing.{Width}
use Rattle.score_rows.specs.Numbers.{least}
use Rattle.score_rows.specs.Windows.{IsOutside}
use Rattle.score_rows.specs.declared.totals.Totals.TheInside.{Inside}

abbrev pub numbers_of : {N : Type 0} → (N → ℤ) → Inside N → List ℤ
numbers_of value fields = map value fields.numbers.items

-- the window ends within the word, and no number outside of it stands for a score
pub record AreWindowed {N : Type 0} (width : Width) (value : N → ℤ) (fields : Inside N) : Type 0 where
  pub within : fields.window.past ≤ length fields.numbers.items
  pub dead : (k : ℕ) (number : ℤ) → slice_get (numbers_of value fields) k ≡ Some number → IsOutside fields.window k
      → number <ℤ least width
