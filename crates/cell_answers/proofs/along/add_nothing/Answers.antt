use Rattle.std.proofs.Common.{refl, sym, subst, eqb-true}
use Rattle.score_numbers.specs.Worthless.{AreWorthless}
use Rattle.cell_answers.proofs.OneEnds.{empty_without}
use Rattle.cell_answers.proofs.along.add_nothing.Goals as goal

pub returns-then-is_empty : goal.returns-then-is_empty
returns-then-is_empty c = (
  λ _. subst (λ tokens. AreWorthless tokens c.args.factors.now) (sym (empty_without c.args.tokens.now (eqb-true _ _ (sym c.if-is_empty.ensures)))) tt,
  λ _. refl,
)
