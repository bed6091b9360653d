use Rattle.std.proofs.Common.{arith}
use Rattle.grammar_check.proofs.CutNumbers.{told-product}
use Rattle.grammar_check.proofs.part.Worth.at.Goals as goal

pub returns-in-OfLetters : goal.returns-in-OfLetters
returns-in-OfLetters c = λ bound right. grind (arith, told-product, c.cut_product-in-OfLetters.ensures, c.cut_product-in-OfLetters-2.ensures)
