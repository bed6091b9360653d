-- What words of one grammar share, under one of its algebras.
use Rattle.std.specs.Prelude.{[]}
use Rattle.adp_model.specs.PosedProblem.{PosedProblem}
use Rattle.split_lines.specs.EachWord.{with_word}

-- the problem without its word: what problems of one grammar, under one of its algebras, have in common
abbrev pub without_word : PosedProblem → PosedProblem
without_word p = with_word p.grammar p.algebra []
