use Rattle.std.proofs.Common.{map}
use Rattle.score_numbers.specs.Spaced.{least_sum}
use Rattle.score_numbers.specs.TermLines.{HasLive}
use Rattle.score_numbers.proofs.Greatest.{HasBefore}
use Rattle.score_numbers.proofs.LargestSums.{IsLargest}
use Rattle.score_numbers.proofs.term_lines.greatest_live.Given as goal

-- the greatest in the first places
abbrev pub invariant-loop-k : goal.invariant-loop-k
invariant-loop-k g l =
    IsLargest (least_sum g.N.Number.width)
    (HasBefore (λ k number. HasLive g.N.Number.width (map g.N.Number.value l.before) (map g.N.Number.value l.behind) (map g.N.Number.value l.lane) k number) l.k)
    (g.N.Number.value l.greatest)
