-- Sums of sizes as they are added up, each cut at the greatest number that is kept.
use Rattle.std.specs.Prelude.{ℕ, ◌+◌, min, Option, Some, None, List, fold}
use Rattle.adp_model.specs.declared.grammar.Arg.{Arg}
use Rattle.adp_model.specs.Sizes.{least_of, greatest_of, sum_of}

-- sums above this number count as this number
abbrev pub greatest_sum_kept : ℕ
greatest_sum_kept = 18446744073709551615

abbrev pub kept : Option ℕ → Option ℕ
kept None = None
kept (Some sum) = Some (min sum greatest_sum_kept)

-- the least lengths of arguments, added up
abbrev pub kept_least_sum : List ℕ → List Arg → ℕ
kept_least_sum sizes arguments =
    fold (λ sum argument. min (sum + least_of sizes argument) greatest_sum_kept) 0 arguments

-- the greatest lengths of arguments, added up
abbrev pub kept_greatest_sum : List (Option ℕ) → List Arg → Option ℕ
kept_greatest_sum sizes arguments = fold (λ sum argument. kept (sum_of sum (greatest_of sizes argument))) (Some 0) arguments
