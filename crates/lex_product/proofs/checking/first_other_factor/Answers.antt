use Rattle.std.proofs.Common.{◌≡◌, length, refl, true, false, ap, arith}
use borrow.Author.Count.{below_more}
use Rattle.lex_product.specs.PairFaults.{BothAddScores}
use Rattle.lex_product.proofs.checking.first_other_factor.Goals as goal

pub returns-then-not-both_add_scores : goal.returns-then-not-both_add_scores
returns-then-not-both_add_scores c = record {
  in_range = omega (arith, ap length c.as_slice-sign-end.ensures, c.loop-sign-test.true);
  faulty = λ h. (let no : false ≡ true = c.if-not-both_add_scores.ensures.1 h in cc);
  before = c.loop-sign.invariant;
}

pub loop-sign-preserved : goal.loop-sign-preserved
loop-sign-preserved c =
    below_more (BothAddScores c.args.grammar.now c.args.first c.args.second) c.loop-sign.sign c.loop-sign.invariant (c.if-not-both_add_scores.ensures.0 refl)
