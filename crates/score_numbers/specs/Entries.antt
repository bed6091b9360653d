-- The entries of cells: scores, and a number where there is no candidate.
use Rattle.std.specs.Prelude.{ℤ, negsuc, ◌^◌, ◌-◌, Option, Some, None, if◌then◌else◌}
use Rattle.std.specs.Ordering.{int_eq}

-- the entry of a cell that has no candidate: a number that no score is
abbrev pub no_candidate : ℤ
no_candidate = negsuc (2 ^ 63 - 1)

abbrev pub score_of_entry : ℤ → Option ℤ
score_of_entry entry = if int_eq entry no_candidate then None else Some entry
