use Rattle.adp_model.specs.Bellman.{HasBestScore}
use Rattle.cell_answers.proofs.ScaledTotals.{worthless_total}
use Rattle.cell_answers.proofs.along.between_total.Goals as goal

pub returns-else-weigh : goal.returns-else-weigh
returns-else-weigh c =
    worthless_total c.args.lines.now (HasBestScore c.args.lines.now) c.args.tokens.now c.args.factors.now c.args.from
    c.args.to (c.requires.worthless c.if-weigh.false) c.requires.fixed c.requires.covers
