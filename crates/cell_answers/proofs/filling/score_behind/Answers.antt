use Rattle.std.proofs.Common.{subst}
use Rattle.split_lines.specs.Kept.{IsScored}
use Rattle.cell_answers.proofs.Scoring.{greatest_allowed}
use Rattle.cell_answers.proofs.filling.score_behind.Goals as goal

pub score_by_sum-requires-clause-sum : goal.score_by_sum-requires-clause-sum
score_by_sum-requires-clause-sum c =
    subst (IsScored c.args.lines.now c.args.cell.rule c.args.alt c.args.alternative.now) c.in-Sum.is c.requires.alternative.scored

pub score_by_term-requires-clause-term : goal.score_by_term-requires-clause-term
score_by_term-requires-clause-term c =
    subst (IsScored c.args.lines.now c.args.cell.rule c.args.alt c.args.alternative.now) c.in-Term.is c.requires.alternative.scored

pub score_by_term-requires-clause-allowed : goal.score_by_term-requires-clause-allowed
score_by_term-requires-clause-allowed c = c.requires.opening.allowed c.args.alt c.requires.alternative

pub returns-in-Sum-clause-greatest : goal.returns-in-Sum-clause-greatest
returns-in-Sum-clause-greatest c =
    greatest_allowed c.args.lines.now c.args.cell c.args.alt c.score_by_sum.result
    (c.requires.opening.allowed c.args.alt c.requires.alternative) c.score_by_sum.ensures.greatest

pub returns-in-Term-clause-greatest : goal.returns-in-Term-clause-greatest
returns-in-Term-clause-greatest c =
    greatest_allowed c.args.lines.now c.args.cell c.args.alt c.score_by_term.result
    (c.requires.opening.allowed c.args.alt c.requires.alternative) c.score_by_term.ensures
