use Rattle.std.proofs.Common.{◌+◌, get_or, map}
use Rattle.score_numbers.specs.Sums.{number_at}
use Rattle.score_numbers.proofs.LiveNumbers.{IsLoadedBefore}
use Rattle.score_numbers.proofs.term_lines.numbers_from.Given as goal

-- the numbers at the first of the positions are there
abbrev pub invariant-loop-k : goal.invariant-loop-k
invariant-loop-k g l = IsLoadedBefore g.N.Number.width.mark (λ k. l.begin + k) (map g.N.Number.value l.numbers) (map g.N.Number.value l.lane) l.k

abbrev pub invariant-loop-k-else-numbers-positions : goal.invariant-loop-k-else-numbers-positions
invariant-loop-k-else-numbers-positions g l = IsLoadedBefore g.N.Number.width.mark (λ k. number_at l.positions (get_or l.positions.at.now (l.begin + k) 0)) (map g.N.Number.value l.numbers) (map g.N.Number.value l.lane) l.k
