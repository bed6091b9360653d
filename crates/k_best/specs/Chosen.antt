-- The values and the ranks of the first arguments of a split.
use Rattle.std.specs.Prelude.{ℕ, ℤ, List, take}
use Rattle.k_best.specs.declared.chosen.Chosen.{Chosen}

abbrev pub values_of : Chosen → List ℤ
values_of chosen = take chosen.valued chosen.values

abbrev pub ranks_of : Chosen → List ℕ
ranks_of chosen = take chosen.ranked chosen.ranks
