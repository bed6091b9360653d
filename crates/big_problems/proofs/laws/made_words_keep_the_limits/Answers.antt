use Rattle.std.proofs.Common.{◌/◌, suc, arith}
use Rattle.big_problems.proofs.PairBounds.{node_bound, score_bound}
use Rattle.big_problems.proofs.PairCells.{spans, cell_bound, few_spans}
use Rattle.big_problems.proofs.laws.made_words_keep_the_limits.Goals as goal

pub returns : goal.returns
returns c =
    λ size small. record {
      letters = omega arith;
      cells = (spans size, cell_bound size, few_spans size small);
      nodes = (suc size, node_bound size, omega arith);
      scores = (size / 2, score_bound size, omega arith);
    }
