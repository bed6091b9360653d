use Rattle.std.proofs.Common.{map}
use Rattle.score_numbers.proofs.Combined.{AreCombinedBefore}
use Rattle.score_numbers.proofs.lanes.combine.Given as goal

-- the numbers before this one are combined
abbrev pub invariant-loop-k : goal.invariant-loop-k
invariant-loop-k g l =
    AreCombinedBefore g.N.Number.width.limit g.C.Combination.exact (map g.N.Number.value l.fn.lane) (map g.N.Number.value l.other) (map g.N.Number.value l.lane) l.k
