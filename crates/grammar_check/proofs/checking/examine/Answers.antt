use Rattle.std.proofs.Common.{sym, subst}
use Rattle.yield_sizes.specs.LoopAnswers.{AreRanks}
use Rattle.grammar_check.proofs.checking.examine.Goals as goal

pub returns : goal.returns
returns c = (c.in_ok-algebra.ensures.0, c.in_ok-algebra.ensures.2, c.in_ok-anchors.ensures, subst (AreRanks c.args.grammar.now) (sym c.new-ranks.ensures) c.in_ok-ranks.ensures)
