use Rattle.std.proofs.Common.{append_assoc}
use Rattle.report.proofs.word_lines.word_report.Goals as goal

pub returns : goal.returns
returns c =
    let text = c.in_ok-push_answer_lines.ensures in (
      text.0,
      c.args.outcome.now.cells,
      text.1,
      c.requires.cells,
      rw (c.in_ok-push_number_line-2.ensures, text.2, c.in_ok-push_number_line.ensures, c.new-out.ensures.items, c.from.ensures) (simp append_assoc),
    )
