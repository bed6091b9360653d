use Rattle.std.proofs.Common.{◌≡◌}
use Rattle.cell_answers.proofs.LaidEnds.{HasTotalNowhere}
use Rattle.cell_answers.proofs.answer_cuts.end_among.Given as goal

-- no end before this one gives the total
abbrev pub invariant-loop-end : goal.invariant-loop-end
invariant-loop-end l = record {
  same : l.tails ≡ l.behind.lines.now;
  none : HasTotalNowhere l.behind.lines.now l.argument l.others l.factor l.more l.from l.to l.total l.end;
}
